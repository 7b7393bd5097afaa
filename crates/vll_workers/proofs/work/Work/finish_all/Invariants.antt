-- What is left has released its claims.
use Rattle.std.proofs.Common.{◌≤◌, ◌+◌, All, length}
use Rattle.vll_queue.specs.Pass.{IsReleased}
use Rattle.vll_tokens.specs.declared.stack.TheConstants.{MOST_BATCH}
use Rattle.vll_workers.proofs.work.Work.finish_all.Given as goal

abbrev pub invariant-loop-done : goal.invariant-loop-done
invariant-loop-done g l =
    All (IsReleased g.N.Name.engine) l.released × (length l.released + length l.finished ≤ MOST_BATCH)

abbrev pub decreases-loop-done : goal.decreases-loop-done
decreases-loop-done g l = length l.released
