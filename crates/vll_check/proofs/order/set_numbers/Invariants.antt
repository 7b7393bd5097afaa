use Rattle.std.proofs.Common.{◌≡◌, ◌<◌, ◌≤◌, ℕ, None, slice_index_or}
use Rattle.vll_check.proofs.Common.{Entry, check_fault}
use Rattle.vll_check.proofs.order.set_numbers.Given as goal

abbrev pub invariant-loop-i : goal.invariant-loop-i
invariant-loop-i l = record {
  done : (n : ℕ) (d : Entry) → n < l.i → slice_index_or l.entries n d ≡ record (slice_index_or l.initial.entries n d) { number = n };
  left : (n : ℕ) (d : Entry) → l.i ≤ n → slice_index_or l.entries n d ≡ slice_index_or l.initial.entries n d;
  passed : (n : ℕ) (d : Entry) → n < l.i → check_fault (slice_index_or l.initial.entries n d).records (slice_index_or l.initial.entries n d).procedure ≡ None;
}
