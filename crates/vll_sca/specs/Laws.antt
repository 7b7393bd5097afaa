-- What holds for every scan, whatever the places and the number of bits: a collision can only hold an entry back.
use Rattle.std.specs.Prelude.{◌≡◌, ℕ, ◌+◌, ◌<◌, true, false, List, ◌++◌, length, Some, slice_get, option_map, All, not}
use Rattle.std.specs.List.{filter}
use Rattle.vll_record.specs.Claim.{conflict}
use Rattle.vll_sca.specs.declared.entry.Entry.{Entry}
use Rattle.vll_sca.specs.Headline.Status.{is_waiting}
use Rattle.vll_sca.specs.Status.{is_gone}
use Rattle.vll_sca.specs.Scan.{hash_conflict, scan, scan_numbered}

-- entries that conflict are in hash conflict
abbrev pub ConflictImpliesHashConflict : Type 0
ConflictImpliesHashConflict =
    (place : ℕ → ℕ) (bits : ℕ) (a b : Entry)
    → conflict a.claims b.claims ≡ true → hash_conflict place bits a b ≡ true

-- the scan finds one of the entries
abbrev pub ScannedEntryIsThere : Type 0
ScannedEntryIsThere =
    (place : ℕ → ℕ) (bits : ℕ) (entries : List Entry) (i : ℕ)
    → scan place bits entries ≡ Some i → i < length entries

-- the entry that the scan finds is Waiting
abbrev pub ScannedEntryWaits : Type 0
ScannedEntryWaits =
    (place : ℕ → ℕ) (bits : ℕ) (entries : List Entry) (i : ℕ) (e : Entry)
    → scan place bits entries ≡ Some i → slice_get entries i ≡ Some e → is_waiting e.status ≡ true

-- no earlier entry that is Running or Waiting conflicts with the entry that the scan finds
abbrev pub ScannedEntryIsClear : Type 0
ScannedEntryIsClear =
    (place : ℕ → ℕ) (bits : ℕ) (entries : List Entry) (i : ℕ) (e : Entry)
    → scan place bits entries ≡ Some i → slice_get entries i ≡ Some e
    → (j : ℕ) (d : Entry) → j < i → slice_get entries j ≡ Some d → is_gone d.status ≡ false → conflict d.claims e.claims ≡ false

-- after entries that are all gone, the scan finds what it finds in the rest alone
abbrev pub GoneBeginningsDoNotMatter : Type 0
GoneBeginningsDoNotMatter =
    (place : ℕ → ℕ) (bits : ℕ) (xs ys : List Entry) → All (λ (x : Entry). is_gone x.status ≡ true) xs
    → scan place bits (xs ++ ys) ≡ option_map (λ i. length xs + i) (scan place bits ys)

-- among numbered entries, those that are gone can be left out: the scan finds the same number
abbrev pub GoneEntriesDoNotMatter : Type 0
GoneEntriesDoNotMatter =
    (place : ℕ → ℕ) (bits : ℕ) (numbered : List (ℕ × Entry))
    → scan_numbered place bits (filter (λ x. not (is_gone x.1.status)) numbered) ≡ scan_numbered place bits numbered
