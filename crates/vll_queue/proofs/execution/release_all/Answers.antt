use Rattle.std.proofs.Common.{arith}
use Rattle.std.proofs.lemmas.Grind.{common_steps}
use Rattle.vll_queue.proofs.execution.release_all.Goals as goal

pub loop-claim-preserved : goal.loop-claim-preserved
loop-claim-preserved c = grind (arith, common_steps)
