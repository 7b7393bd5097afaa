-- What contracts see of a machine.
use Rattle.std.specs.Prelude.{◌≡◌, ℕ, ◌+◌, ◌*◌, ◌<◌, List, length, map, slice_index}
use Rattle.std.specs.Global.{Vec}
use Rattle.vll_proc.specs.declared.call.Call.{Call}
use Rattle.vll_check.specs.Headline.Catalog.{Catalog}
use Rattle.vll_record.specs.Headline.Word.{pair_word_of_record}
use Rattle.vll_record.specs.Word.{value_word_of}
use Rattle.vll_core.specs.declared.config.Config.{Config}
use Rattle.vll_core.specs.Headline.State.{Base, catalog_of}
use Rattle.vll_core.specs.State.{Opening, State, counter, value}
use Rattle.vll_core.specs.Machine.{Outcome, opened, state_after}

-- what is fixed from the opening on, with the hash itself, and the state of the machine
pub record Shown (H : Type 0) : Type 0 where
  pub base : Base
  pub cap : ℕ
  pub limit : ℕ
  pub bits : ℕ
  pub hash : H
  pub state : State

-- the opening of the plain machine, by the places that the hash gives to records
abbrev pub opening_of : {H : Type 0} → (H → ℕ → ℕ) → Shown H → Opening
opening_of place c = record { base = c.base; cap = c.cap; limit = c.limit; bits = c.bits; place = place c.hash }

-- the library of a machine: its procedures, checked for its number of records
abbrev pub library_of : {H : Type 0} → Shown H → Catalog
library_of c = catalog_of c.base

-- a machine in which nothing is entered
abbrev pub begun : {H : Type 0} → Catalog → List ℕ → List (Vec Call) → Config → H → Shown H
begun library records scripts config hash = record {
  base = record { procs = library.procs; records = records };
  cap = config.cap;
  limit = config.limit;
  bits = config.bits;
  hash = hash;
  state = opened (map (λ (v : Vec Call). v.items) scripts);
}

-- a machine after the outcome of an event
abbrev pub after : {H : Type 0} → Shown H → Outcome → Shown H
after c out = record c { state = state_after c.state out }

-- the words of a state: word 0 is 0, and each record has its value and its counter
pub record AreWords (base : Base) (s : State) (words : List ℕ) : Type 0 where
  pub long : length words ≡ 1 + 2 * length base.records
  pub turn : slice_index words 0 ≡ 0
  pub values : (r : ℕ) → r < length base.records → slice_index words (value_word_of r) ≡ value base s r
  pub pairs : (r : ℕ) → r < length base.records → slice_index words (pair_word_of_record r) ≡ counter s r
