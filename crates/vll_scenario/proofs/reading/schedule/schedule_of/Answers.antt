use Rattle.std.proofs.Common.{sym}
use Rattle.std.specs.Prelude.{codes}
use Rattle.vll_scenario.proofs.Sizes.{get-within-Some}
use Rattle.vll_scenario.proofs.reading.schedule.schedule_of.Goals as goal

pub list_in-requires : goal.list_in-requires
list_in-requires c = record { few = get-within-Some (codes "schedule") _ _ _ c.requires.few (sym c.in-Some.ensures) }
