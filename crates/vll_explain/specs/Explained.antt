-- What `explain` writes about a scenario that was read.
use Rattle.std.specs.Prelude.{◌≡◌, ◌⊎◌, ℕ, ◌<◌, List, [], ◌∷◌, ◌++◌, length, Option, Some, None, IfSome, Result, Ok, Err, codes, string_bytes}
use Rattle.serde_json.specs.Data.{Data}
use Rattle.serde_json.specs.View.{view}
use Rattle.vll_scenario.specs.declared.fault.ScenarioFault.{ScenarioFault}
use Rattle.vll_scenario.specs.declared.fault.ScenarioFault.TheVariants as fault
use Rattle.vll_scenario.specs.declared.limits.TheConstants.{MOST_BYTES}
use Rattle.vll_fault_path.specs.declared.piece.Step.{Step}
use Rattle.vll_fault_path.specs.declared.piece.Step.TheVariants as step
use Rattle.vll_scenario.specs.Line.{fault_words}
use Rattle.vll_scenario.specs.Reading.{IsRead, Tells}
use Rattle.vll_scenario.specs.Scenario.{scenario_at, tree_or_json}
use Rattle.vll_scenario.specs.Headline.Setup.{Setup}
use Rattle.vll_fault_path.specs.Ways.{LeadsToFault, step_words, words_of}
use Rattle.vll_explain.specs.declared.explaining.Parsed.{Parsed}
use Rattle.vll_explain.specs.declared.explaining.Refusal.{Refusal}

-- the line of a fault
abbrev pub line_of : ScenarioFault → List ℕ
line_of why = codes "vll: scenario: " ++ fault_words why ++ codes "\n"

-- what is shown after the second step of a way: after one to a procedure perhaps its name in parentheses, else nothing
abbrev pub IsShown : List Step → List ℕ → Type 0
IsShown (step.Procs ∷ step.Item i ∷ steps) shown = (shown ≡ []) ⊎ ((name : List ℕ) × (shown ≡ codes " (" ++ name ++ codes ")"))
IsShown way shown = shown ≡ []

-- the words of a way: its steps, and what is shown after the second one
abbrev pub way_words : List ℕ → List Step → List ℕ
way_words shown [] = codes "the scenario"
way_words shown (part ∷ []) = step_words part
way_words shown (part ∷ item ∷ steps) = step_words part ++ step_words item ++ shown ++ words_of steps

-- the line of a fault, and then an explanation
abbrev pub IsBegun : ScenarioFault → List ℕ → Type 0
IsBegun why text = (rest : List ℕ) × (text ≡ line_of why ++ codes "at: " ++ rest)

-- the line of a fault, then the way to the piece at fault, and then why
pub record IsLocated (tree : Data) (why : ScenarioFault) (text : List ℕ) : Type 0 where
  pub way : List Step
  pub leads : LeadsToFault tree why way
  pub shown : List ℕ
  pub is_shown : IsShown way shown
  pub rest : List ℕ
  pub is : text ≡ line_of why ++ codes "at: " ++ way_words shown way ++ codes "\nwhy: " ++ rest

-- the tree of bytes, as far as they are known, has this fault
abbrev pub HasFault : Option (List ℕ) → Data → ScenarioFault → Type 0
HasFault known tree why = Tells tree_or_json known (Ok tree) × (scenario_at (Some tree) ≡ Err why)

-- more bytes than a scenario may have, as far as they are known
abbrev pub AreMany : Option (List ℕ) → Type 0
AreMany known = IfSome known (λ bytes. MOST_BYTES < length bytes)

-- the text about the scenario of known bytes: the fault, and, if it lies in their tree, the piece of it that is at fault;
-- or `ok`, and then what the scenario has
abbrev pub IsTold : Option (List ℕ) → Result Setup ScenarioFault → List ℕ → Type 0
IsTold known (Err fault.Read) text = IsBegun fault.Read text
IsTold known (Err fault.NoMemory) text = IsBegun fault.NoMemory text
IsTold known (Err fault.Json) text = IsBegun fault.Json text
IsTold known (Err fault.Size) text = (AreMany known × IsBegun fault.Size text) ⊎ ((tree : Data) × HasFault known tree fault.Size × IsLocated tree fault.Size text)
IsTold known (Err why) text = (tree : Data) × HasFault known tree why × IsLocated tree why text
IsTold known (Ok setup) text = (rest : List ℕ) × (text ≡ codes "ok\n" ++ rest)

-- the fault, if there is one
abbrev pub fault_in : Result Setup ScenarioFault → Option ScenarioFault
fault_in (Err why) = Some why
fault_in (Ok setup) = None

-- a scenario or this fault was read, and this holds of a text about it
pub record Explains (old new : Option (List ℕ)) (fault : Option ScenarioFault) (Holds : List ℕ → Type 0) : Type 0 where
  pub read : Result Setup ScenarioFault
  pub is_read : IsRead old new read
  pub is_fault : fault_in read ≡ fault
  pub text : List ℕ
  pub told : IsTold old read text
  pub holds : Holds text

-- the tree of bytes, as far as they are known, describes this scenario
abbrev pub Describes : Option (List ℕ) → Data → Setup → Type 0
Describes known tree setup = Tells tree_or_json known (Ok tree) × (scenario_at (Some tree) ≡ Ok setup)

-- a scenario was read with the tree that describes it, or a fault, with a text about it if there was memory for one
abbrev pub ReadsOrExplains : Option (List ℕ) → Option (List ℕ) → Result Parsed Refusal → Type 0
ReadsOrExplains old new (Ok parsed) = IsRead old new (Ok parsed.scenario) × Describes old (view parsed.tree) parsed.scenario
ReadsOrExplains old new (Err r) = IsRead old new (Err r.fault) × IfSome r.text (λ t. IsTold old (Err r.fault) (string_bytes t))

-- the fault, if there is one
abbrev pub fault_of : Result Parsed Refusal → Option ScenarioFault
fault_of (Ok parsed) = None
fault_of (Err r) = Some r.fault
