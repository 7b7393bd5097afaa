-- The scan: which waiting entry may run. Records are told apart by their places alone, modulo the number of bits.
use Rattle.std.specs.Prelude.{ℕ, ◌%◌, Bool, ◌&&◌, not, List, map, take, Option, Some, None, position, slice_get}
use Rattle.std.specs.List.{list_any, enumerate_from}
use Rattle.vll_record.specs.declared.claim.Claim.{Claim}
use Rattle.vll_record.specs.Claim.{conflict}
use Rattle.vll_sca.specs.declared.entry.Entry.{Entry}
use Rattle.vll_sca.specs.Headline.Status.{is_waiting}
use Rattle.vll_sca.specs.Status.{is_gone}

module _ (place : ℕ → ℕ) (bits : ℕ) where
  -- a claim on the place of its record, modulo the number of bits
  abbrev pub hashed : Claim → Claim
  hashed c = record c { id = place c.id % bits }

  -- two entries are in hash conflict if their claims conflict, with each record replaced by its place
  abbrev pub hash_conflict : Entry → Entry → Bool
  hash_conflict a b = conflict (map hashed a.claims) (map hashed b.claims)

  -- an entry holds another one back if it is Running or Waiting, and in hash conflict with it
  abbrev pub holds_back : Entry → Entry → Bool
  holds_back d e = not (is_gone d.status) && hash_conflict d e

  -- the entry at place i may run if it is Waiting, and no earlier entry holds it back
  abbrev pub may_run : List Entry → ℕ × Entry → Bool
  may_run entries (i, e) = is_waiting e.status && not (list_any (λ d. holds_back d e) (take i entries))

  -- the first entry that may run
  abbrev pub scan : List Entry → Option ℕ
  scan entries = position (may_run entries) (enumerate_from 0 entries)

  -- the number of the entry that the scan finds, if each entry has a number
  abbrev pub scan_numbered : List (ℕ × Entry) → Option ℕ
  scan_numbered numbered = elim (scan (map (λ x. x.1) numbered)) [ None ↦ None | Some i ↦ slice_get (map (λ x. x.0) numbered) i ]
