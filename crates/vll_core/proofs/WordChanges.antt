-- The words of a state where one counter or one value has changed.
use Rattle.std.proofs.Common.{◌≡◌, ◌≢◌, ℕ, ◌<◌, sym, ap, ◌∙◌, arith, List, length, slice_index, slice_index_or, slice_set, ⊎_elim}
use Rattle.vll_core.proofs.Common.{cases_eq, get_or_default, get_or-set_same, get_or-set_other, length-set, pair_word_of_record, value_word_of, Base, State, counter, value, AreWords}

-- a record's words are among the words
pub pair_word_within : (base : Base) (s : State) (words : List ℕ) (r : ℕ) → AreWords base s words → r < length base.records → pair_word_of_record r < length words
pair_word_within base s words r are there = omega (arith, are.long, there)

pub value_word_within : (base : Base) (s : State) (words : List ℕ) (r : ℕ) → AreWords base s words → r < length base.records → value_word_of r < length words
value_word_within base s words r are there = omega (arith, are.long, there)

-- a word is read
pub word_read : (words : List ℕ) (i place n word : ℕ) → i < length words → slice_index words i ≡ n → place ≡ i → word ≡ slice_index_or words place word → word ≡ n
word_read words i place n word within is at read = read ∙ ap (λ (j : ℕ). slice_index_or words j word) at ∙ get_or_default words i word 0 within ∙ is

-- a word is written
word_there : (words : List ℕ) (i j v : ℕ) → j ≡ i → i < length words → slice_index (slice_set words i v) j ≡ v
word_there words i j v e within = ap (slice_index (slice_set words i v)) e ∙ get_or-set_same words i v 0 within

-- the words where a record's counter has become v, and no other counter and no value has changed
pub words_set_pair : (base : Base) (s next : State) (words : List ℕ) (r v : ℕ)
    → r < length base.records → counter next r ≡ v → ((k : ℕ) → k ≢ r → counter next k ≡ counter s k) → ((k : ℕ) → value base next k ≡ value base s k)
    → AreWords base s words → AreWords base next (slice_set words (pair_word_of_record r) v)
words_set_pair base s next words r v there here others values are = record {
  long = length-set words (pair_word_of_record r) v ∙ are.long;
  turn = get_or-set_other words (pair_word_of_record r) 0 v 0 (λ e. omega arith) ∙ are.turn;
  values = λ k within. get_or-set_other words (pair_word_of_record r) (value_word_of k) v 0 (λ e. omega arith) ∙ are.values k within ∙ sym (values k);
  pairs = λ k within. ⊎_elim
      (λ (same : k ≡ r).
      word_there words (pair_word_of_record r) (pair_word_of_record k) v (ap pair_word_of_record same) (pair_word_within base s words r are there)
      ∙ sym here ∙ ap (counter next) (sym same))
      (λ (other : k ≢ r).
      get_or-set_other words (pair_word_of_record r) (pair_word_of_record k) v 0 (λ e. other (omega (arith, e))) ∙ are.pairs k within ∙ sym (others k other))
      (cases_eq k r);
}

-- the words where a record's value has become v, and no other value and no counter has changed
pub words_set_value : (base : Base) (s next : State) (words : List ℕ) (r v : ℕ)
    → r < length base.records → value base next r ≡ v → ((k : ℕ) → k ≢ r → value base next k ≡ value base s k) → ((k : ℕ) → counter next k ≡ counter s k)
    → AreWords base s words → AreWords base next (slice_set words (value_word_of r) v)
words_set_value base s next words r v there here others counters are = record {
  long = length-set words (value_word_of r) v ∙ are.long;
  turn = get_or-set_other words (value_word_of r) 0 v 0 (λ e. omega arith) ∙ are.turn;
  values = λ k within. ⊎_elim
      (λ (same : k ≡ r).
      word_there words (value_word_of r) (value_word_of k) v (ap value_word_of same) (value_word_within base s words r are there)
      ∙ sym here ∙ ap (value base next) (sym same))
      (λ (other : k ≢ r).
      get_or-set_other words (value_word_of r) (value_word_of k) v 0 (λ e. other (omega (arith, e))) ∙ are.values k within ∙ sym (others k other))
      (cases_eq k r);
  pairs = λ k within. get_or-set_other words (value_word_of r) (pair_word_of_record k) v 0 (λ e. omega arith) ∙ are.pairs k within ∙ sym (counters k);
}
