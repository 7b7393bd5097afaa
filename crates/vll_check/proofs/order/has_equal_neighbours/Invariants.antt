use Rattle.std.proofs.Common.{◌≡◌, ◌<◌, ◌+◌, ℕ, slice_index_or}
use Rattle.vll_check.proofs.Common.{Less, Entry, by_name}
use Rattle.vll_check.proofs.order.has_equal_neighbours.Given as goal

abbrev pub invariant-loop-i : goal.invariant-loop-i
invariant-loop-i l = (k : ℕ) (d : Entry) → k + 1 < l.i → by_name (slice_index_or l.entries k d) (slice_index_or l.entries (k + 1) d) ≡ Less
