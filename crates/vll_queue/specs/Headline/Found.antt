-- The values that entered calls have found.
use Rattle.std.specs.Prelude.{◌≡◌, ◌≤◌, ℕ, List, Some, slice_get, slice_index}
use Rattle.vll_proc.specs.declared.call.Call.{Call}
use Rattle.vll_proc.specs.Headline.Serial.{Made, before}
use Rattle.vll_check.specs.Headline.Calls.{source}
use Rattle.vll_core.specs.Headline.State.{Base, catalog_of}

-- a call has found a value that was in a record: if these calls run one at a time, it is the record's value before some
-- ticket up to a bound
pub record FoundThere (base : Base) (calls : List Made) (bound : ℕ) (call : Call) (r : ℕ) : Type 0 where
  pub value : ℕ
  pub is : call.found ≡ Some value
  pub ticket : ℕ
  pub within : ticket ≤ bound
  pub there : value ≡ slice_index (before base.procs calls base.records ticket) r

-- each of these calls that has a source has found a value that was in it before the call's own ticket or an earlier one
abbrev pub AreFoundThere : Base → List Made → Type 0
AreFoundThere base calls = (t : ℕ) (m : Made) (r : ℕ) → slice_get calls t ≡ Some m → source (catalog_of base) m.1 ≡ Some r → FoundThere base calls t m.1 r
