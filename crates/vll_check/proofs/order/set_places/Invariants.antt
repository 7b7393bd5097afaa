use Rattle.std.proofs.Common.{◌≡◌, ◌<◌, ℕ, slice_index_or, length}
use Rattle.vll_check.proofs.Common.{Entry}
use Rattle.vll_check.proofs.order.set_places.Given as goal

abbrev pub invariant-loop-i : goal.invariant-loop-i
invariant-loop-i l = record {
  kept : (k : ℕ) (d : Entry) → k < length l.initial.entries → slice_index_or l.entries k d ≡ record (slice_index_or l.initial.entries k d) { place = (slice_index_or l.entries k d).place };
  done : (k : ℕ) (d : Entry) → k < l.i → (slice_index_or l.entries (slice_index_or l.initial.entries k d).number d).place ≡ k;
}
