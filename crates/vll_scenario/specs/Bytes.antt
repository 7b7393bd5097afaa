-- The results of reading the bytes of a scenario.
use Rattle.std.specs.Prelude.{◌≤◌, ℕ, List, length, Option}
use Rattle.std.specs.Io.KnownBytes.{Consumes, IsAtEnd}
use Rattle.vll_scenario.specs.declared.reading.bytes.ReadFault.{ReadFault}
use Rattle.vll_scenario.specs.declared.reading.bytes.ReadFault.TheVariants as bytes
use Rattle.vll_scenario.specs.declared.fault.ScenarioFault.{ScenarioFault}
use Rattle.vll_scenario.specs.declared.fault.ScenarioFault.TheVariants as scenario
use Rattle.vll_scenario.specs.declared.limits.TheConstants.{MOST_BYTES}
use Rattle.vll_scenario.specs.Streams.{AreTooMany}

-- the fault of a scenario whose bytes were not read to their end
abbrev pub fault_of : ReadFault → ScenarioFault
fault_of bytes.Read = scenario.Read
fault_of bytes.Size = scenario.Size
fault_of bytes.NoMemory = scenario.NoMemory

-- some bytes were read
abbrev pub ReadsSome : Option (List ℕ) → Option (List ℕ) → Type 0
ReadsSome old new = (bytes : List ℕ) × Consumes old new bytes

-- the bytes were read to the end, and are no more than a scenario may have
abbrev pub ReadsAll : Option (List ℕ) → Option (List ℕ) → List ℕ → Type 0
ReadsAll old new bytes = Consumes old new bytes × IsAtEnd new × (length bytes ≤ MOST_BYTES)

-- more bytes were read than a scenario may have, and then no more
abbrev pub ReadsTooMany : Option (List ℕ) → Option (List ℕ) → Type 0
ReadsTooMany old new = (bytes : List ℕ) × Consumes old new bytes × AreTooMany bytes
