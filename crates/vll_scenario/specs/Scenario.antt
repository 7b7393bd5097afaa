-- The scenario that bytes describe, or the fault that is returned for them.
use Rattle.std.specs.Prelude.{◌≡◌, ℕ, suc, max, ◌&&◌, List, [], ◌∷◌, length, sum_by, unwrap_or, Option, Some, None, option_map, Result, Ok, Err, if◌then◌else◌, is_none}
use Rattle.std.specs.Str.{IsUtf8}
use Rattle.serde_json.specs.Data.{Data}
use Rattle.serde_json.specs.Read.{read}
use Rattle.vll_proc.specs.declared.call.Call.{Call}
use Rattle.vll_proc.specs.declared.syntax.Proc.{Proc}
use Rattle.vll_check.specs.declared.fault.CallFault.{CallFault}
use Rattle.vll_check.specs.Calls.{call_made}
use Rattle.vll_check.specs.Headline.Catalog.{Catalog}
use Rattle.vll_check.specs.Faults.{check_fault}
use Rattle.vll_check.specs.Names.{has_name_twice}
use Rattle.vll_scenario.specs.declared.reading.asked.Asked.{Asked}
use Rattle.vll_scenario.specs.declared.fault.ScenarioFault.{ScenarioFault}
use Rattle.vll_scenario.specs.declared.fault.ScenarioFault.TheVariants as fault
use Rattle.vll_core.specs.declared.config.Config.{Config}
use Rattle.vll_core.specs.Faults.{open_fault}
use Rattle.vll_core.specs.Machine.{refuse_if}
use Rattle.vll_sca.specs.declared.place.Placing.TheVariants.{Modulo}
use Rattle.vll_scenario.specs.declared.reading.setup.TheConstants.{BITS, CAP}
use Rattle.vll_scenario.specs.Headline.Setup.{Setup}
use Rattle.vll_scenario.specs.Setup.{has_sizes}
use Rattle.vll_scenario.specs.declared.reading.shape.Parts.{Parts}
use Rattle.vll_scenario.specs.Shape.{◌>>=◌, shape_of}

-- the first of two if it is there, else the second
abbrev pub or_else : {A : Type 0} → Option A → Option A → Option A
or_else None b = b
or_else (Some a) b = Some a

-- the fault of the first item that has one; `test` gets each item's index, from i on
abbrev pub first_fault : {A F : Type 0} → (ℕ → A → Option F) → ℕ → List A → Option F
first_fault test i [] = None
first_fault test i (x ∷ xs) = or_else (test i x) (first_fault test (suc i) xs)

-- the results of f for the items, or the fault of the first item that has one; f gets each item's index, from i on
abbrev pub each_given : {A B F : Type 0} → (ℕ → A → Result B F) → ℕ → List A → Result (List B) F
each_given f i [] = Ok []
each_given f i (x ∷ xs) = do
  y ← f i x
  ys ← each_given f (suc i) xs
  Ok (y ∷ ys)

-- the value, unless there is a fault
abbrev pub ok_unless : {A F : Type 0} → Option F → A → Result A F
ok_unless None a = Ok a
ok_unless (Some why) a = Err why

-- the fault of the first procedure that is not well-formed, with numbers from i on
abbrev pub first_check_from : ℕ → ℕ → List Proc → Option ScenarioFault
first_check_from records i procs = first_fault (λ n p. option_map (fault.Check n) (check_fault records p)) i procs

-- the fault of the first procedure that is not well-formed
abbrev pub first_check : ℕ → List Proc → Option ScenarioFault
first_check records procs = first_check_from records 0 procs

-- a call, or its fault with the client and the index
abbrev pub in_call : ℕ → ℕ → Result Call CallFault → Result Call ScenarioFault
in_call client index (Ok c) = Ok c
in_call client index (Err why) = Err (fault.Call client index why)

-- the call that a client's script asks for at an index
abbrev pub call_at : Catalog → ℕ → ℕ → Asked → Result Call ScenarioFault
call_at catalog client index a = in_call client index (call_made catalog a.name a.args)

-- the calls of a client's script
abbrev pub script_made : Catalog → ℕ → List Asked → Result (List Call) ScenarioFault
script_made catalog client script = each_given (call_at catalog client) 0 script

-- the calls of the scripts, client by client
abbrev pub scripts_made : Catalog → List (List Asked) → Result (List (List Call)) ScenarioFault
scripts_made catalog scripts = each_given (script_made catalog) 0 scripts

-- the machine's settings: by default cap 1024, bits 4096, and as the limit the number of calls, at least 1
abbrev pub config_of : Parts → Config
config_of p = record { cap = unwrap_or p.cap CAP; limit = unwrap_or p.limit (max 1 (sum_by length p.scripts)); bits = unwrap_or p.bits BITS }

-- the scenario made from its parts: the sizes are checked first, then the procedures, their names and the calls
abbrev pub setup_of : Parts → Result Setup ScenarioFault
setup_of p =
    if has_sizes p.procs p.scripts p.schedule && is_none (open_fault (length p.records) (config_of p)) then
    (do
      procs ← ok_unless (first_check (length p.records) p.procs) p.procs
      refuse_if (has_name_twice procs) fault.NameTwice (do
        scripts ← scripts_made (record { records = length p.records; procs = procs }) p.scripts
        Ok (record { records = p.records; procs = procs; scripts = scripts; config = config_of p; placing = unwrap_or p.placing Modulo; schedule = p.schedule })))
    else Err fault.Size

-- the JSON tree of bytes, as serde_json reads it, or that they have none
abbrev pub IsTree : List ℕ → Option Data → Type 0
IsTree bytes (Some d) = IsUtf8 bytes × (read bytes ≡ Some d)
IsTree bytes None = IsUtf8 bytes → read bytes ≡ None

-- a tree, or the fault `Json` if the bytes have none
abbrev pub tree_or_json : Option Data → Result Data ScenarioFault
tree_or_json None = Err fault.Json
tree_or_json (Some d) = Ok d

-- the parts of a tree
abbrev pub parts_at : Option Data → Result Parts ScenarioFault
parts_at tree = do
  d ← tree_or_json tree
  shape_of d

-- the scenario of a tree: the checks are made in this order, and the first fault is returned
abbrev pub scenario_at : Option Data → Result Setup ScenarioFault
scenario_at tree = do
  parts ← parts_at tree
  setup_of parts
