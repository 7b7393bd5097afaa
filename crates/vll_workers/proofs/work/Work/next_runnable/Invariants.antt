-- The tokens that are left and those that were tried are in hand.
use Rattle.std.proofs.Common.{◌≡◌, ◌≤◌, ◌+◌, ◌++◌, length}
use Rattle.vll_tokens.specs.declared.stack.TheConstants.{MOST_BATCH}
use Rattle.crossbeam_queue.specs.Passes.{view}
use Rattle.vll_workers.specs.Private.Work.{IsAtWork}
use Rattle.vll_workers.proofs.work.Work.next_runnable.Given as goal

abbrev pub invariant-loop : goal.invariant-loop
invariant-loop g l =
    IsAtWork g.T.Roster.tokens l.self.pool.now l.worker (l.taken.untried ++ l.taken.tried) × ((view l.worker.pass).parts ≡ (view l.initial.worker.pass).parts)
    × (length l.taken.untried + length l.taken.tried ≤ MOST_BATCH)
