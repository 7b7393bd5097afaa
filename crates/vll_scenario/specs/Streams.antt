-- The effects of reading and writing on bytes that are known.
use Rattle.std.specs.Prelude.{◌≡◌, ◌<◌, ◌≤◌, ◌+◌, ℕ, List, ◌++◌, length, Option}
use Rattle.std.specs.Io.KnownBytes.{Appends}
use Rattle.vll_scenario.specs.declared.reading.bytes.TheConstants.{PIECE}
use Rattle.vll_scenario.specs.declared.limits.TheConstants.{MOST_BYTES}

-- a prefix of the text was appended
abbrev pub AppendsBeginning : Option (List ℕ) → Option (List ℕ) → List ℕ → Type 0
AppendsBeginning old new text = (front : List ℕ) × (rest : List ℕ) × (text ≡ front ++ rest) × Appends old new front

-- more bytes than a scenario may have, and no piece after the one that made them too many
abbrev pub AreTooMany : List ℕ → Type 0
AreTooMany bytes = (MOST_BYTES < length bytes) × (length bytes ≤ MOST_BYTES + PIECE)
