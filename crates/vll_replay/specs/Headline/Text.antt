-- The text of an outcome.
use Rattle.std.specs.Prelude.{ℕ, List, [], ◌∷◌, ◌++◌, codes}
use Rattle.std.specs.List.{flat_map, enumerate_from}
use Rattle.std.specs.Fmt.{decimal}

-- a text as the list of its bytes
abbrev pub Text : Type 0
Text = List ℕ

-- the line of a call, with its ticket, its client and its words
abbrev pub call_line : ℕ × (ℕ × Text) → Text
call_line (t, (client, words)) = codes "call " ++ decimal t ++ codes " client " ++ decimal client ++ 32 ∷ words ++ 10 ∷ []

-- the line of a record, with its number, its value and its pair word
abbrev pub record_line : ℕ × (ℕ × ℕ) → Text
record_line (r, (value, pair)) = codes "record " ++ decimal r ++ codes " value " ++ decimal value ++ codes " pair " ++ decimal pair ++ 10 ∷ []

-- a line for each call, with its client and its words, and one for each record, with its value and its pair word
abbrev pub outcome_text : List (ℕ × Text) → List (ℕ × ℕ) → Text
outcome_text calls records = flat_map call_line (enumerate_from 0 calls) ++ flat_map record_line (enumerate_from 0 records)
