-- The parts of a scenario as its JSON tree gives them, or the first fault of their shape.
use Rattle.std.specs.Prelude.{ℕ, ◌==◌, List, [], ◌∷◌, Option, Some, None, option_map, option_and_then, Result, Ok, Err, if◌then◌else◌, codes}
use Rattle.serde_json.specs.Data.{Data}
use Rattle.serde_json.specs.Find.{as_str, get}
use Rattle.vll_proc.specs.declared.syntax.Edition.{Edition}
use Rattle.vll_proc.specs.declared.syntax.Edition.TheVariants.{One, Two}
use Rattle.vll_sca.specs.declared.place.Placing.{Placing}
use Rattle.vll_sca.specs.declared.place.Placing.TheVariants.{Modulo, Spread}
use Rattle.vll_scenario.specs.declared.reading.asked.Asked.{Asked}
use Rattle.vll_scenario.specs.declared.fault.Part.{Part}
use Rattle.vll_scenario.specs.declared.fault.Part.TheVariants.{Top, Version, Records, Procs, Clients, Cap, Bits, Limit, Hash, Schedule}
use Rattle.vll_scenario.specs.declared.fault.ScenarioFault.{ScenarioFault}
use Rattle.vll_scenario.specs.declared.fault.ScenarioFault.TheVariants.{Shape}
use Rattle.vll_scenario.specs.declared.reading.shape.Parts.{Parts}
use Rattle.vll_scenario.specs.Schedule.{event_at}
use Rattle.vll_scenario.specs.Tree.{number_at, u32_at, list_at, whole}
use Rattle.vll_scenario.specs.Syntax.{Table, both_of, find_word, has_exactly, has_members, member_at, proc_at}

infixl 10 ◌>>=◌
-- continues unless there is a fault
abbrev pub ◌>>=◌ : {A B F : Type 0} → Result A F → (A → Result B F) → Result B F
(Ok a) >>= go = go a
(Err why) >>= go = Err why

-- the fault of a part's shape, at an index
abbrev pub shape_fault : Part → ℕ → ScenarioFault
shape_fault part i = Shape (record { part = part; index = i })

-- a fault of a part, at the index of its first faulty item
abbrev pub in_part : {A : Type 0} → Part → Result A ℕ → Result A ScenarioFault
in_part part (Ok a) = Ok a
in_part part (Err i) = Err (shape_fault part i)

-- the value, or a fault at index 0 if there is none
abbrev pub or_first : {A : Type 0} → Option A → Result A ℕ
or_first None = Err 0
or_first (Some a) = Ok a

-- a member, read as a list
abbrev pub part_at : {A : Type 0} → Part → List ℕ → (Data → Option A) → Data → Result (List A) ScenarioFault
part_at part name f d = in_part part (list_at f (member_at name d))

-- the value of a member, if it is present
abbrev pub option_at : {A : Type 0} → Part → List ℕ → (Data → Option A) → Data → Result (Option A) ScenarioFault
option_at part name f d = given part (option_map f (get name d))
  where
    given : {A : Type 0} → Part → Option (Option A) → Result (Option A) ScenarioFault
    given part None = Ok None
    given part (Some None) = Err (shape_fault part 0)
    given part (Some (Some a)) = Ok (Some a)

-- the words that name a hash
abbrev pub placings : Table Placing
placings = (codes "modulo", Modulo) ∷ (codes "spread", Spread) ∷ []

-- a hash by its word
abbrev pub placing_at : Data → Option Placing
placing_at d = option_and_then (λ word. find_word word placings) (as_str d)

-- a member, read as a list, which is empty if the member is absent
abbrev pub list_if_there : {A : Type 0} → (Data → Option A) → Option Data → Result (List A) ℕ
list_if_there f None = Ok []
list_if_there f (Some d) = list_at f d

-- the members that a scenario must have
abbrev pub must_names : List (List ℕ)
must_names = codes "version" ∷ codes "records" ∷ codes "procs" ∷ codes "clients" ∷ []

-- the members that it may have
abbrev pub may_names : List (List ℕ)
may_names =
    codes "version" ∷ codes "records" ∷ codes "procs" ∷ codes "clients" ∷ codes "cap" ∷ codes "bits" ∷ codes "limit" ∷ codes "hash" ∷ codes "schedule" ∷ []

-- a call: an object with exactly `proc` and `args`
abbrev pub asked_at : Data → Option Asked
asked_at d = if has_exactly (codes "proc" ∷ codes "args" ∷ []) d then both_of asked (as_str (member_at (codes "proc") d)) (whole (list_at number_at (member_at (codes "args") d))) else None
  where
    asked : List ℕ → List ℕ → Asked
    asked name args = record { name = name; args = args }

-- a script: a list of calls
abbrev pub script_at : Data → Option (List Asked)
script_at d = whole (list_at asked_at d)

-- version 1 is written in edition One, version 2 in edition Two
abbrev pub edition_of : ℕ → Option Edition
edition_of version = if version == 1 then Some One else (if version == 2 then Some Two else None)

-- the edition of a scenario's version
abbrev pub edition_at : Data → Result Edition ScenarioFault
edition_at d = in_part Version (or_first (option_and_then edition_of (number_at (member_at (codes "version") d))))

-- the parts in order, up to the first fault
abbrev pub parts_of : Data → Result Parts ScenarioFault
parts_of d = do
  edition ← edition_at d
  records ← part_at Records (codes "records") number_at d
  procs ← part_at Procs (codes "procs") (proc_at edition) d
  scripts ← part_at Clients (codes "clients") script_at d
  cap ← option_at Cap (codes "cap") u32_at d
  bits ← option_at Bits (codes "bits") u32_at d
  limit ← option_at Limit (codes "limit") u32_at d
  placing ← option_at Hash (codes "hash") placing_at d
  schedule ← in_part Schedule (list_if_there event_at (get (codes "schedule") d))
  Ok (record { records = records; procs = procs; scripts = scripts; cap = cap; bits = bits; limit = limit; placing = placing; schedule = schedule })

-- an object with the members of a scenario, and its parts
abbrev pub shape_of : Data → Result Parts ScenarioFault
shape_of d = if has_members must_names may_names d then parts_of d else Err (shape_fault Top 0)
