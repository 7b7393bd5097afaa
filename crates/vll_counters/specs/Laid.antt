-- The words with which a table begins.
use Rattle.std.specs.Prelude.{◌≡◌, ℕ, ◌+◌, ◌*◌, ◌<◌, List, [], ◌∷◌, length, slice_index}
use Rattle.vll_record.specs.Headline.Word.{pair_word_of_record}
use Rattle.vll_record.specs.Word.{value_word_of}

-- word 0 is 0, and each record has its value, with no claim open
pub record AreLaid (records words : List ℕ) : Type 0 where
  pub long : length words ≡ 1 + 2 * length records
  pub turn : slice_index words 0 ≡ 0
  pub values : (r : ℕ) → r < length records → slice_index words (value_word_of r) ≡ slice_index records r
  pub pairs : (r : ℕ) → r < length records → slice_index words (pair_word_of_record r) ≡ 0

-- the two words of each of these records: its value, and a pair word with no claim open
abbrev pub record_words : List ℕ → List ℕ
record_words [] = []
record_words (value ∷ values) = value ∷ 0 ∷ record_words values

-- the words with which the table of these records begins
abbrev pub laid_words : List ℕ → List ℕ
laid_words records = 0 ∷ record_words records
