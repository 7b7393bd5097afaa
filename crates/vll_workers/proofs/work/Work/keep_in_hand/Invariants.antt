-- The tokens of both stacks are in hand.
use Rattle.std.proofs.Common.{◌≤◌, ◌+◌, ◌++◌, length}
use Rattle.vll_tokens.specs.declared.stack.TheConstants.{MOST_BATCH}
use Rattle.vll_workers.specs.Private.Work.{IsAtWork}
use Rattle.vll_workers.proofs.work.Work.keep_in_hand.Given as goal

abbrev pub invariant-loop-token : goal.invariant-loop-token
invariant-loop-token g l =
    IsAtWork g.T.Roster.tokens l.self.pool.now l.worker (l.taken.untried ++ l.taken.tried) × (length l.taken.untried + length l.taken.tried ≤ MOST_BATCH)

abbrev pub decreases-loop-token : goal.decreases-loop-token
decreases-loop-token g l = length l.taken.untried
