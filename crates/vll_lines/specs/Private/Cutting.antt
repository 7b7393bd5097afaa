-- What the functions that cut an input leave.
use Rattle.std.specs.Prelude.{◌≡◌, ◌⊎◌, ◌<◌, ℕ, false, List, ◌++◌, length}
use Rattle.vll_check.specs.Headline.Catalog.{Catalog}
use Rattle.vll_lines.specs.Request.{AreRequests}
use Rattle.vll_lines.specs.Lines.{CutsInto}
use Rattle.vll_lines.specs.declared.request.Request.{Request}
use Rattle.vll_lines.specs.declared.limits.TheConstants.{MOST_LINE}

-- bytes stand for those of a line: they are the same, or both are too many for a line
abbrev pub StandsFor : List ℕ → List ℕ → Type 0
StandsFor bytes line = (bytes ≡ line) ⊎ ((MOST_LINE < length bytes) × (MOST_LINE < length line))

-- bytes before the end of an input are cut into lines and a rest, and what the lines ask for is appended
pub record Cuts (library : Catalog) (clients : ℕ) (bytes : List ℕ) (old new : List Request) (rest : List ℕ) : Type 0 where
  pub lines : List (List ℕ)
  pub cut : CutsInto false bytes lines rest
  pub more : List Request
  pub appended : new ≡ old ++ more
  pub requests : AreRequests library clients lines more
