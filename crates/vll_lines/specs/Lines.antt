-- The lines of an input, and a round of them.
use Rattle.std.specs.Prelude.{◌≡◌, ℕ, Bool, true, false, ◌==◌, List, [], ◌∷◌, ◌++◌, Option, if◌then◌else◌}
use Rattle.std.specs.Io.KnownBytes.{Consumes, IsAtEnd}
use Rattle.std.specs.List.{list_any}
use Rattle.vll_check.specs.Headline.Catalog.{Catalog}
use Rattle.vll_lines.specs.Request.{AreRequests}
use Rattle.vll_lines.specs.declared.round.Round.{Round}
use Rattle.vll_lines.specs.declared.round.RoundFault.{RoundFault}
use Rattle.vll_lines.specs.declared.round.RoundFault.TheVariants as fault

-- whether a line feed is among these bytes
abbrev pub has_feed : List ℕ → Bool
has_feed bytes = list_any (λ b. b == 10) bytes

-- a byte at the front of the first line
abbrev pub at_front : ℕ → List (List ℕ) → List (List ℕ)
at_front b [] = (b ∷ []) ∷ []
at_front b (l ∷ ls) = (b ∷ l) ∷ ls

-- the lines of an input, without their line feeds: the last one may lack it
abbrev pub lines_in : List ℕ → List (List ℕ)
lines_in [] = []
lines_in (b ∷ bytes) = if b == 10 then [] ∷ lines_in bytes else at_front b (lines_in bytes)

-- bytes are cut into these lines and a tail: at the end of the input the lines are all, and before it, whatever may
-- follow, they are the first ones
abbrev pub CutsInto : Bool → List ℕ → List (List ℕ) → List ℕ → Type 0
CutsInto true bytes lines tail = (tail ≡ []) × (lines_in bytes ≡ lines)
CutsInto false bytes lines tail = (rest : List ℕ) → lines_in (bytes ++ rest) ≡ lines ++ lines_in (tail ++ rest)

-- bytes were read, all of them if this is the last round, and what stands after the tail is what the lines ask for that
-- are complete with them
pub record IsRound (library : Catalog) (clients : ℕ) (old new : Option (List ℕ)) (tail after : List ℕ) (r : Round) : Type 0 where
  pub bytes : List ℕ
  pub read : Consumes old new bytes
  pub ended : r.is_last ≡ true → IsAtEnd new
  pub lines : List (List ℕ)
  pub cut : CutsInto r.is_last (tail ++ bytes) lines after
  pub requests : AreRequests library clients lines r.requests.items

-- bytes were read, but not to the end of a round: no line ends in them, if a read has failed
pub record IsBroken (old new : Option (List ℕ)) (why : RoundFault) : Type 0 where
  pub bytes : List ℕ
  pub read : Consumes old new bytes
  pub unended : why ≡ fault.Read → has_feed bytes ≡ false
