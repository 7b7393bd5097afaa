-- The modes of claims in one word: from the lowest bit on, a bit is 1 if the claim is Write.
use Rattle.std.specs.Prelude.{ℕ, ◌+◌, ◌*◌, ◌/◌, ◌%◌, ◌==◌, List, [], ◌∷◌, if◌then◌else◌}
use Rattle.vll_record.specs.declared.claim.Mode.TheVariants.{Read, Write}
use Rattle.vll_record.specs.declared.claim.Claim.{Claim}
use Rattle.vll_record.specs.Headline.Claim.{is_write}

-- the claims on these records, in order, with the modes that a word holds
abbrev pub claims_with : List ℕ → ℕ → List Claim
claims_with [] writes = []
claims_with (r ∷ rs) writes = record { id = r; mode = if writes % 2 == 1 then Write else Read } ∷ claims_with rs (writes / 2)

-- the word that holds the modes of claims
abbrev pub mask_of : List Claim → ℕ
mask_of [] = 0
mask_of (c ∷ cs) = (if is_write c then 1 else 0) + 2 * mask_of cs
