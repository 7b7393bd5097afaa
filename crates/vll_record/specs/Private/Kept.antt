-- Claims are strictly ascending, and each list has one representation in the fields.
use Rattle.std.specs.Prelude.{◌≡◌, ℕ, ◌≤◌, List, length, map, take}
use Rattle.vll_record.specs.Claim.{IsRising}
use Rattle.vll_record.specs.declared.claim.Claim.{Claim}
use Rattle.vll_record.specs.declared.claims.TheConstants.{MOST_CLAIMS}
use Rattle.vll_record.specs.declared.claims.Claims.TheInside.{Inside}
use Rattle.vll_record.specs.Headline.Canon.{laid}
use Rattle.vll_record.specs.Private.Masks.{claims_with, mask_of}

-- the claims that the fields represent
abbrev pub kept : Inside → List Claim
kept c = claims_with (take c.len c.ids) c.modes.writes

-- the records of claims
abbrev pub ids_of : List Claim → List ℕ
ids_of cs = map (λ (c : Claim). c.id) cs

-- the fields that represent a list of claims
abbrev pub from_list : List Claim → Inside
from_list cs = record { ids = laid MOST_CLAIMS 0 (ids_of cs); modes = record { writes = mask_of cs }; len = length cs }

pub record IsCanonical (c : Inside) : Type 0 where
  pub few : length (kept c) ≤ MOST_CLAIMS
  pub lies : from_list (kept c) ≡ c
  pub rising : IsRising (kept c)

pub from_list-kept : (a : Inside) → IsCanonical a → from_list (kept a) ≡ a
from_list-kept a h = h.lies
