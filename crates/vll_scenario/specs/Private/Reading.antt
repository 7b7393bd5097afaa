-- The results of the functions that read a scenario.
use Rattle.std.specs.Prelude.{◌≡◌, ℕ, List, Result, Ok, Err}
use Rattle.std.specs.Global.{Vec}
use Rattle.serde_json.specs.Data.{Data}
use Rattle.serde_json.specs.View.{view}
use Rattle.serde_json.specs.declared.value.Value.{Value}
use Rattle.vll_proc.specs.declared.call.Call.{Call}
use Rattle.vll_scenario.specs.declared.fault.ScenarioFault.{ScenarioFault}
use Rattle.vll_scenario.specs.declared.fault.ScenarioFault.TheVariants.{NoMemory}
use Rattle.vll_scenario.specs.declared.reading.tree.FirstFault.{FirstFault}
use Rattle.vll_scenario.specs.declared.reading.tree.FirstFault.TheVariants as first_fault
use Rattle.vll_scenario.specs.Setup.{lists_of}

-- `Gives` for a list
abbrev pub GivesList : {A : Type 0} → Result (List A) FirstFault → Result (List A) ℕ → Type 0
GivesList (Ok xs) reading = reading ≡ Ok xs
GivesList (Err first_fault.NoMemory) reading = Unit {0}
GivesList (Err (first_fault.At i)) reading = reading ≡ Err i

-- `Gives` for a part or for the whole
abbrev pub GivesUnlessMemory : {A : Type 0} → Result A ScenarioFault → Result A ScenarioFault → Type 0
GivesUnlessMemory (Err NoMemory) reading = Unit {0}
GivesUnlessMemory result reading = reading ≡ result

-- a tree as the data that it represents
abbrev pub data_of : Result Value ScenarioFault → Result Data ScenarioFault
data_of (Ok v) = Ok (view v)
data_of (Err why) = Err why

-- a script that was made, as a list of calls
abbrev pub made_list : {F : Type 0} → Result (Vec Call) F → Result (List Call) F
made_list (Ok calls) = Ok calls.items
made_list (Err why) = Err why

-- the scripts that were made, as lists of calls
abbrev pub made_lists : {F : Type 0} → Result (Vec (Vec Call)) F → Result (List (List Call)) F
made_lists (Ok scripts) = Ok (lists_of scripts.items)
made_lists (Err why) = Err why
