use Rattle.std.proofs.Common.{◌≡◌, ◌++◌, length}
use Rattle.vll_counters.specs.Shown.{passed}
use Rattle.vll_queue.proofs.execution.release_all.Given as goal

-- the claims that the loop has got so far are released
abbrev pub invariant-loop-claim : goal.invariant-loop-claim
invariant-loop-claim l = record {
  all : l.yielded ++ l.claim-iterator ≡ l.claims;
  pass : l.seat ≡ record (passed l.initial.seat (record l.initial.seat.pass { releases = length l.yielded })) { past = l.seat.past };
}
