-- The index of a record's value word among all words.
use Rattle.std.specs.Prelude.{ℕ, ◌+◌, ◌*◌}

-- the index of record r's value word, 1 + 2r
abbrev pub value_word_of : ℕ → ℕ
value_word_of r = 1 + 2 * r
