-- The claims of a call from what its key positions ask for.
use Rattle.std.specs.Prelude.{Bool, true, false, ◌==◌, nat_lt, List, [], ◌∷◌, if◌then◌else◌}
use Rattle.vll_record.specs.declared.claim.Mode.{Mode}
use Rattle.vll_record.specs.declared.claim.Mode.TheVariants.{Read, Write}
use Rattle.vll_record.specs.declared.claim.Claim.{Claim}

-- a claim for writing
abbrev pub is_write : Claim → Bool
is_write c = elim c.mode [ Read ↦ false | Write ↦ true ]

-- the stronger of two modes: Write if either is
abbrev pub stronger : Mode → Mode → Mode
stronger Write m = Write
stronger Read m = m

-- a claim inserted in order; a record that already has a claim keeps one, Write if either is
abbrev pub with_claim : Claim → List Claim → List Claim
with_claim c [] = c ∷ []
with_claim c (d ∷ ds) =
    if nat_lt c.id d.id then c ∷ d ∷ ds else
    (if c.id == d.id then record d { mode = stronger c.mode d.mode } ∷ ds else d ∷ with_claim c ds)

-- the one list that `AreClaimsOf` allows
abbrev pub claims_of : List Claim → List Claim
claims_of [] = []
claims_of (c ∷ cs) = with_claim c (claims_of cs)
