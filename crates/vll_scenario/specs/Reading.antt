-- The result for the bytes that a reader supplies.
use Rattle.std.specs.Prelude.{◌≡◌, ◌<◌, ◌≤◌, ◌⊎◌, ℕ, List, length, Option, Some, IfSome, Result, Err}
use Rattle.std.specs.Io.KnownBytes.{Consumes, IsAtEnd}
use Rattle.serde_json.specs.Data.{Data}
use Rattle.vll_scenario.specs.declared.fault.ScenarioFault.{ScenarioFault}
use Rattle.vll_scenario.specs.declared.fault.ScenarioFault.TheVariants as fault
use Rattle.vll_scenario.specs.declared.limits.TheConstants.{MOST_BYTES}
use Rattle.vll_scenario.specs.Scenario.{IsTree, scenario_at}
use Rattle.vll_scenario.specs.Headline.Setup.{Setup}
use Rattle.vll_scenario.specs.Streams.{AreTooMany}

-- the result for bytes: that there are too many, or the result for their tree
abbrev pub IsAnswerBy : {A : Type 0} → (Option Data → Result A ScenarioFault) → List ℕ → Result A ScenarioFault → Type 0
IsAnswerBy of bytes result =
    ((MOST_BYTES < length bytes) × (result ≡ Err fault.Size))
    ⊎ ((length bytes ≤ MOST_BYTES) × ((tree : Option Data) × IsTree bytes tree × (of tree ≡ result)))

-- the bytes were read to their end, or until there were too many and no further
abbrev pub ReadsEnough : Option (List ℕ) → Option (List ℕ) → List ℕ → Type 0
ReadsEnough old new bytes = Consumes old new bytes × (AreTooMany bytes ⊎ IsAtEnd new)

-- the result is the one for the bytes that were read, unless the reader failed or memory ran out
abbrev pub Reads : {A : Type 0} → (Option Data → Result A ScenarioFault) → Option (List ℕ) → Option (List ℕ) → Result A ScenarioFault → Type 0
Reads of old new (Err fault.Read) = Unit {0}
Reads of old new (Err fault.NoMemory) = Unit {0}
Reads of old new result = (bytes : List ℕ) × ReadsEnough old new bytes × IsAnswerBy of bytes result

-- if the reader's bytes are known, the result is the one for them, unless the reader failed or memory ran out
abbrev pub Tells : {A : Type 0} → (Option Data → Result A ScenarioFault) → Option (List ℕ) → Result A ScenarioFault → Type 0
Tells of known (Err fault.Read) = Unit {0}
Tells of known (Err fault.NoMemory) = Unit {0}
Tells of known result = IfSome known (λ bytes. IsAnswerBy of bytes result)

-- the scenario, or the fault, is that of the bytes that were read
abbrev pub IsRead : Option (List ℕ) → Option (List ℕ) → Result Setup ScenarioFault → Type 0
IsRead old new result = Reads scenario_at old new result × Tells scenario_at old result

-- the result is the scenario of a tree, or its fault, unless memory ran out
abbrev pub IsScenarioOf : Data → Result Setup ScenarioFault → Type 0
IsScenarioOf tree (Err fault.NoMemory) = Unit {0}
IsScenarioOf tree result = scenario_at (Some tree) ≡ result
