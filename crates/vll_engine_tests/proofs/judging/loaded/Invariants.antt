use Rattle.std.proofs.Common.{◌≡◌, ◌++◌, length}
use Rattle.vll_engine_tests.proofs.judging.loaded.Given as goal

-- the claims that the loop has got so far, one for each cell, and those that are left are the call's
abbrev pub invariant-loop-claim : goal.invariant-loop-claim
invariant-loop-claim g l = record {
  all : l.yielded ++ l.claim-iterator ≡ l.claims;
  count : l.cell ≡ length l.yielded;
}
