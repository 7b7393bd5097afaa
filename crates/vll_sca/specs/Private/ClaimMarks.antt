-- What the claims of entries mark: the places of Write claims in one list of bits, and those of Read claims in another.
use Rattle.std.specs.Prelude.{◌≡◌, ℕ, ◌≤◌, Bool, false, ◌||◌, ◌&&◌, not, if◌then◌else◌, List, [], ◌∷◌, ◌++◌, length, map, take, All, Option, unwrap_or, slice_set, slice_index_or}
use Rattle.std.specs.List.{filter}
use Rattle.vll_record.specs.declared.claim.Claim.{Claim}
use Rattle.vll_record.specs.Headline.Claim.{is_write}
use Rattle.vll_sca.specs.declared.entry.Entry.{Entry}
use Rattle.vll_sca.specs.declared.claim_marks.ClaimMarks.{ClaimMarks}
use Rattle.vll_sca.specs.Status.{is_gone}

-- there is a place below n, and there are bits for all places below n
pub record HasRoom (n : ℕ) (m : ClaimMarks) : Type 0 where
  pub some : 1 ≤ n
  pub writes : n ≤ length m.writes
  pub reads : n ≤ length m.reads

-- nothing is marked
pub record IsClear (m : ClaimMarks) : Type 0 where
  pub writes : All (λ b. b ≡ false) m.writes
  pub reads : All (λ b. b ≡ false) m.reads

-- a claim on a place meets a mark: a Read claim meets those of Write claims, a Write claim meets all
abbrev pub meets : ClaimMarks → Claim → Bool
meets m c = slice_index_or m.writes c.id false || (is_write c && slice_index_or m.reads c.id false)

-- the bits, with those at these places set to b
abbrev pub with_bits : Bool → List ℕ → List Bool → List Bool
with_bits b [] bits = bits
with_bits b (k ∷ ks) bits = with_bits b ks (slice_set bits k b)

-- the places of the Write claims, and of the Read claims
abbrev pub written : List Claim → List ℕ
written cs = map (λ (c : Claim). c.id) (filter is_write cs)

abbrev pub read : List Claim → List ℕ
read cs = map (λ (c : Claim). c.id) (filter (λ c. not (is_write c)) cs)

-- the marks after the place of each claim is marked for its mode, or cleared
abbrev pub with_claims : Bool → List Claim → ClaimMarks → ClaimMarks
with_claims b cs m = record { writes = with_bits b (written cs) m.writes; reads = with_bits b (read cs) m.reads }

-- the claims of the entries that run or wait
abbrev pub claims_left : List Entry → List Claim
claims_left [] = []
claims_left (e ∷ es) = (if is_gone e.status then [] else e.claims) ++ claims_left es

-- the entries before the one that is found, or all if none is found
abbrev pub passed : Option ℕ → List Entry → List Entry
passed found entries = take (unwrap_or found (length entries)) entries
