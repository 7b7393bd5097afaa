use Rattle.std.proofs.Common.{◌≤◌, subst}
use Rattle.vll_scenario.specs.declared.limits.TheConstants.{MOST_BYTES}
use Rattle.vll_scenario.specs.Private.Longest.{longest_list}
use Rattle.vll_scenario.proofs.Sizes.{member-within}
use Rattle.vll_scenario.proofs.reading.shape.part_of.Goals as goal

pub list_in-requires : goal.list_in-requires
list_in-requires g c = record { few = subst (λ d. longest_list d ≤ MOST_BYTES) c.in-Ok.ensures.ok (member-within _ _ _ c.requires.few) }
