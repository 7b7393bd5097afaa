-- Which claims conflict, and what claims are made of: each record once, in its strongest mode.
use Rattle.std.specs.Prelude.{◌≡◌, ℕ, Bool, ◌||◌, ◌&&◌, ◌==◌, List, [], ◌∷◌, map, if◌then◌else◌, Option, Some, None}
use Rattle.std.specs.Bool.{beq}
use Rattle.std.specs.Ordering.{eq_of_both, on}
use Rattle.std.specs.List.{list_any}
use Rattle.std.specs.List.Sorted.{IsStrictlyIncreasing}
use Rattle.vll_record.specs.declared.claim.Mode.{Mode}
use Rattle.vll_record.specs.declared.claim.Claim.{Claim}
use Rattle.vll_record.specs.Headline.Claim.{is_write, stronger}

-- two claims are the same: of one record, in one mode
abbrev pub is_same_claim : Claim → Claim → Bool
is_same_claim = eq_of_both (on (λ (c : Claim). c.id) ◌==◌) (on is_write beq)

-- two claims conflict if they name the same record and at least one is Write
abbrev pub conflicts : Claim → Claim → Bool
conflicts a b = (a.id == b.id) && (is_write a || is_write b)

-- two lists of claims conflict if a claim of one conflicts with a claim of the other
abbrev pub conflict : List Claim → List Claim → Bool
conflict xs ys = list_any (λ x. list_any (conflicts x) ys) xs

-- the stronger of a mode and a second one, if there is one
abbrev pub stronger_of : Mode → Option Mode → Option Mode
stronger_of m None = Some m
stronger_of m (Some n) = Some (stronger m n)

-- the strongest mode in which a list claims a record, if it does
abbrev pub mode_on : List Claim → ℕ → Option Mode
mode_on [] r = None
mode_on (c ∷ cs) r = if c.id == r then stronger_of c.mode (mode_on cs r) else mode_on cs r

-- strictly rising by record number
abbrev pub IsRising : List Claim → Type 0
IsRising cs = IsStrictlyIncreasing (map (λ (c : Claim). c.id) cs)

-- the claims for what was asked: each record once, in the strongest mode in which it was asked for, in ascending order
pub record AreClaimsOf (asked cs : List Claim) : Type 0 where
  pub rising : IsRising cs
  pub each : (r : ℕ) → mode_on cs r ≡ mode_on asked r
