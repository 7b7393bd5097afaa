use Rattle.std.proofs.Common.{◌≡◌, ◌++◌}
use Rattle.vll_queue.proofs.execution.look_all.Given as goal

-- the claims that the loop has got so far and those that are left are the call's
abbrev pub invariant-loop-claim : goal.invariant-loop-claim
invariant-loop-claim l = l.yielded ++ l.claim-iterator ≡ l.claims
