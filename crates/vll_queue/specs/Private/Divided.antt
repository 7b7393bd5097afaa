-- The words of records, divided into values and pair words.
use Rattle.std.specs.Prelude.{◌≡◌, ℕ, ◌<◌, List, length, slice_index}
use Rattle.vll_record.specs.Headline.Word.{pair_word_of_record}
use Rattle.vll_record.specs.Word.{value_word_of}

-- the words of `count` records, divided into their values and their pair words
pub record AreDivided (count : ℕ) (words values pairs : List ℕ) : Type 0 where
  pub as_many_values : length values ≡ count
  pub as_many_pairs : length pairs ≡ count
  pub each_value : (r : ℕ) → r < count → slice_index values r ≡ slice_index words (value_word_of r)
  pub each_pair : (r : ℕ) → r < count → slice_index pairs r ≡ slice_index words (pair_word_of_record r)
