-- Where a service has stopped before its input ended.
use Rattle.std.specs.Prelude.{◌≡◌, ℕ, Bool, false, List, [], ◌++◌, Option, ⊤}
use Rattle.vll_proc.specs.Headline.Serial.{Made, end}
use Rattle.vll_core.specs.Headline.State.{Base, catalog_of}
use Rattle.vll_queue.specs.Headline.Found.{AreFoundThere}
use Rattle.vll_lines.specs.declared.counts.Counts.{Counts}
use Rattle.vll_stream.specs.declared.fault.StreamFault.{StreamFault}
use Rattle.vll_stream.specs.declared.fault.StreamFault.TheVariants as fault
use Rattle.vll_stream.specs.Private.Parts.{IsPart, Place}
use Rattle.vll_stream.specs.Served.{Stopped, Wrote}

-- a fault of the service's own: neither of its scenario nor of its input or its output
abbrev pub IsOwn : StreamFault → Type 0
IsOwn fault.Calls = ⊥
IsOwn fault.Read = ⊥
IsOwn fault.Write = ⊥
IsOwn fault.NoMemory = ⊤
IsOwn fault.Unfinished = ⊤

-- after these calls, a service has stopped for this reason on the way from one place on, with this input left and this
-- output: more calls answer a part, and of its answers was written what is for such a reason
pub record StopsAfter (base : Base) (clients : ℕ) (calls : List Made) (why : StreamFault) (old : Place) (left written : Option (List ℕ)) : Type 0 where
  pub more : List Made
  pub is_last : Bool
  pub tail : List ℕ
  pub whole : Option (List ℕ)
  pub counts : Counts
  pub part : IsPart (catalog_of base) clients (end base.procs calls base.records) more is_last old (record { input = left; tail = tail; output = whole; counts = counts })
  pub found : AreFoundThere base (calls ++ more)
  pub uncalled : ¬ (why ≡ fault.Calls)
  pub stopped : Stopped why is_last tail
  pub wrote : Wrote why false old.output written part.text []
