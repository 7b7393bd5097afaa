-- The worker has in hand just what it keeps, and all parts; nothing is under way.
use Rattle.std.proofs.Common.{◌≡◌, []}
use Rattle.vll_tokens.specs.Pool.{all_parts}
use Rattle.crossbeam_queue.specs.Passes.{view}
use Rattle.vll_workers.specs.Private.Work.{IsAtWork}
use Rattle.vll_workers.proofs.work.Work.run_to_the_end.Given as goal

abbrev pub invariant-loop : goal.invariant-loop
invariant-loop g l =
    IsAtWork g.T.Roster.tokens l.self.pool.now l.worker [] × ((view l.worker.pass).parts ≡ all_parts)
    × (l.batch.taken.untried ≡ []) × (l.batch.taken.tried ≡ []) × (l.batch.passes ≡ []) × (l.batch.released ≡ []) × (l.batch.finished ≡ [])
