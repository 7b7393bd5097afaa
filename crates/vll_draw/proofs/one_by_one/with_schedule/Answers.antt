use Rattle.std.proofs.Common.{arith}
use Rattle.std.proofs.lemmas.Grind.{common_steps}
use Rattle.vll_scenario.specs.Setup.{IsSetup, setup_with}
use Rattle.vll_scenario.specs.declared.limits.TheConstants.{MOST_EVENTS}
use Rattle.vll_draw.proofs.OneByOne.{cut_length, with_events}
use Rattle.vll_draw.proofs.one_by_one.with_schedule.Goals as goal

pub from_parts-requires-2-clause-kept : goal.from_parts-requires-2-clause-kept
from_parts-requires-2-clause-kept c =
    let parts = c.into_parts-parts.result in
    let kept : IsSetup (setup_with parts) = grind (arith, common_steps) in
    with_events parts c.in_ok-parts.field-0 kept (cut_length MOST_EVENTS _ _ c.in_ok-parts.ensures)
