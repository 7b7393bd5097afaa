use Rattle.std.proofs.Common.{◌≡◌, ◌+◌, ◌*◌, ◌∷◌, take, vec_capacity, vec_len}
use Rattle.vll_counters.proofs.Common.{laid}
use Rattle.vll_counters.proofs.words.lay.Given as goal

abbrev pub invariant-loop-value : goal.invariant-loop-value
invariant-loop-value l = record {
  items : l.words.items ≡ 0 ∷ laid (take l.value-index l.records);
  long : vec_len l.words ≡ 1 + 2 * l.value-index;
  room : vec_capacity l.words ≡ vec_capacity l.fn.words;
}
