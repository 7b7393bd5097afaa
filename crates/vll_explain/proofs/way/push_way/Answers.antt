use Rattle.std.proofs.Common.{arith}
use Rattle.std.proofs.lemmas.Grind.{common_steps}
use Rattle.vll_explain.proofs.way.push_way.Goals as goal

pub returns-in_ok-write-in-len2-up : goal.returns-in_ok-write-in-len2-up
returns-in_ok-write-in-len2-up c = grind (arith, common_steps)
