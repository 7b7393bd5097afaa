use Rattle.std.proofs.Common.{arith}
use Rattle.vll_scenario.proofs.Sizes.{longest_list-read}
use Rattle.vll_scenario.proofs.reading.tree_of.Goals as goal

pub returns-in-Ok-clause-few : goal.returns-in-Ok-clause-few
returns-in-Ok-clause-few c = omega (arith, longest_list-read _ _ c.in-Ok.ensures.ok.1, c.requires)
