-- Cited by private contracts alone.
use Rattle.std.specs.Prelude.{List, ℕ, IfSome, Some, Result, Ok, Err, string_bytes}
use Rattle.serde_json.specs.Data.{Data}
use Rattle.serde_json.specs.View.{view}
use Rattle.vll_scenario.specs.declared.fault.ScenarioFault.{ScenarioFault}
use Rattle.vll_scenario.specs.declared.fault.ScenarioFault.TheVariants as fault
use Rattle.vll_scenario.specs.Reading.{Tells}
use Rattle.vll_scenario.specs.Scenario.{scenario_at}
use Rattle.vll_explain.specs.Explained.{Describes, IsBegun, IsLocated, IsTold}
use Rattle.vll_explain.specs.declared.explaining.Parsed.{Parsed}
use Rattle.vll_explain.specs.declared.explaining.Refusal.{Refusal}

-- the text about a fault: the piece at fault, if it lies in the tree
abbrev pub IsToldOf : Data → ScenarioFault → List ℕ → Type 0
IsToldOf tree fault.Read text = IsBegun fault.Read text
IsToldOf tree fault.NoMemory text = IsBegun fault.NoMemory text
IsToldOf tree fault.Json text = IsBegun fault.Json text
IsToldOf tree why text = IsLocated tree why text

-- bytes in memory are those of the scenario, or they have the fault, with a text about it if there was memory for one
abbrev pub HoldsOrExplains : List ℕ → Result Parsed Refusal → Type 0
HoldsOrExplains bytes (Ok parsed) = Tells scenario_at (Some bytes) (Ok parsed.scenario) × Describes (Some bytes) (view parsed.tree) parsed.scenario
HoldsOrExplains bytes (Err r) = Tells scenario_at (Some bytes) (Err r.fault) × IfSome r.text (λ t. IsTold (Some bytes) (Err r.fault) (string_bytes t))
