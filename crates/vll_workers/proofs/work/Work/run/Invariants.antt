-- The tokens that were kept are in hand, and each call that was executed has released its claims.
use Rattle.std.proofs.Common.{◌≡◌, ◌≤◌, [], All, length}
use Rattle.vll_queue.specs.Pass.{IsReleased}
use Rattle.vll_tokens.specs.declared.stack.TheConstants.{MOST_BATCH}
use Rattle.crossbeam_queue.specs.Passes.{view}
use Rattle.vll_workers.specs.Private.Work.{IsAtWork}
use Rattle.vll_workers.proofs.work.Work.run.Given as goal

abbrev pub invariant-loop : goal.invariant-loop
invariant-loop g l =
    IsAtWork g.T.Roster.tokens l.self.pool.now l.worker l.batch.taken.tried × ((view l.worker.pass).parts ≡ (view l.initial.worker.pass).parts)
    × (length l.batch.taken.tried ≤ MOST_BATCH) × (l.batch.taken.untried ≡ []) × (l.batch.passes ≡ []) × All (IsReleased g.N.Name.engine) l.batch.released × (length l.batch.released ≤ MOST_BATCH) × (l.batch.finished ≡ [])
