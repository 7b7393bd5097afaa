-- What the claims of a call reach: a frame's cells, one for each claim, and the records.
use Rattle.std.specs.Prelude.{◌≡◌, ℕ, ◌<◌, List, length, Some, slice_get, slice_index}
use Rattle.vll_record.specs.declared.claim.Claim.{Claim}

-- each claim is of an existing record, and its cell holds that record's value
abbrev pub Holds : List ℕ → List Claim → List ℕ → Type 0
Holds cells claims records =
    (i : ℕ) (c : Claim) → slice_get claims i ≡ Some c → (c.id < length records) × (slice_index cells i ≡ slice_index records c.id)

-- both lists of records have the record of each claim, with the same value
abbrev pub AgreeAt : List Claim → List ℕ → List ℕ → Type 0
AgreeAt claims m n =
    (i : ℕ) (c : Claim) → slice_get claims i ≡ Some c → (c.id < length m) × (c.id < length n) × (slice_index m c.id ≡ slice_index n c.id)
