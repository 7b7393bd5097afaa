use Rattle.std.proofs.Common.{◌≡◌, ◌++◌, length, filter}
use Rattle.vll_record.specs.Headline.Claim.{is_write}
use Rattle.vll_counters.specs.Shown.{passed}
use Rattle.vll_queue.proofs.execution.store_all.Given as goal

-- the Write claims among those the loop has got so far are stored
abbrev pub invariant-loop-claim : goal.invariant-loop-claim
invariant-loop-claim l = record {
  all : l.yielded ++ l.claim-iterator ≡ l.claims;
  count : l.cell ≡ length l.yielded;
  pass : l.seat ≡ passed l.initial.seat (record l.initial.seat.pass { stores = length (filter is_write l.yielded) });
}
