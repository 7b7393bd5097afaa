use Rattle.std.proofs.Common.{◌≡◌, ◌++◌, length}
use Rattle.vll_bench.proofs.plain.store_all.Given as goal

-- the claims given out so far, one for each cell, and those that are left are the call's
abbrev pub invariant-loop-claim : goal.invariant-loop-claim
invariant-loop-claim l = record {
  all : l.yielded ++ l.claim-iterator ≡ l.claims;
  count : l.cell ≡ length l.yielded;
}
