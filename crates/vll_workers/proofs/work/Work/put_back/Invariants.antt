-- The tokens that are left are in hand: of both stacks, then of the second.
use Rattle.std.proofs.Common.{◌≡◌, ◌++◌, [], length}
use Rattle.crossbeam_queue.specs.Passes.{view}
use Rattle.vll_workers.specs.Private.Work.{IsAtWork}
use Rattle.vll_workers.proofs.work.Work.put_back.Given as goal

abbrev pub invariant-loop-token : goal.invariant-loop-token
invariant-loop-token g l =
    IsAtWork g.T.Roster.tokens l.self.pool.now l.worker (l.taken.untried ++ l.taken.tried) × ((view l.worker.pass).parts ≡ (view l.initial.worker.pass).parts)

abbrev pub decreases-loop-token : goal.decreases-loop-token
decreases-loop-token g l = length l.taken.untried

abbrev pub invariant-loop-token-2 : goal.invariant-loop-token-2
invariant-loop-token-2 g l =
    IsAtWork g.T.Roster.tokens l.self.pool.now l.worker l.taken.tried × ((view l.worker.pass).parts ≡ (view l.initial.worker.pass).parts)
    × (l.taken.untried ≡ [])

abbrev pub decreases-loop-token-2 : goal.decreases-loop-token-2
decreases-loop-token-2 g l = length l.taken.tried
