use Rattle.std.proofs.Common.{◌≡◌, take, vec_capacity, vec_len}
use Rattle.vll_counters.proofs.words.copy.Given as goal

abbrev pub invariant-loop-value : goal.invariant-loop-value
invariant-loop-value l = record {
  items : l.list.items ≡ take l.value-index l.records;
  long : vec_len l.list ≡ l.value-index;
  room : vec_capacity l.list ≡ vec_capacity l.fn.list;
}
