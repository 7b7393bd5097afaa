use Rattle.std.proofs.Common.{length}
use Rattle.vll_explain.proofs.way.+push_steps.Given as goal

abbrev pub decreases-push_steps : goal.decreases-push_steps
decreases-push_steps l = length l.steps.now
