-- The index of a record's pair word among all words; word 0 is the turn word.
use Rattle.std.specs.Prelude.{ℕ, ◌+◌, ◌*◌}

-- the index of record r's pair word, 2 + 2r
abbrev pub pair_word_of_record : ℕ → ℕ
pair_word_of_record r = 2 + 2 * r
