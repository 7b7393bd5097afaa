-- The words of a machine at its opening.
use Rattle.std.specs.Prelude.{◌≡◌, ℕ, ◌+◌, ◌*◌, ◌<◌, List, length, slice_index}
use Rattle.vll_record.specs.Headline.Word.{pair_word_of_record}
use Rattle.vll_record.specs.Word.{value_word_of}

-- the words when nothing is entered: each record's value, with no open claim
pub record AreFirstWords (records words : List ℕ) : Type 0 where
  pub long : length words ≡ 1 + 2 * length records
  pub turn : slice_index words 0 ≡ 0
  pub values : (r : ℕ) → r < length records → slice_index words (value_word_of r) ≡ slice_index records r
  pub pairs : (r : ℕ) → r < length records → slice_index words (pair_word_of_record r) ≡ 0
