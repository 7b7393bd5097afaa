use Rattle.std.proofs.Common.{◌≡◌, ◌≤◌, take, vec_len, vec_capacity}
use Rattle.vll_counters.proofs.Common.{slots_items, slots_len}
use Rattle.vll_counters.proofs.words.gathered.Given as goal

abbrev pub invariant-loop-i : goal.invariant-loop-i
invariant-loop-i l = record {
  items : l.words.items ≡ take l.i (slots_items l.closed.words);
  long : vec_len l.words ≡ l.i;
  room : slots_len l.closed.words ≤ vec_capacity l.words;
}
