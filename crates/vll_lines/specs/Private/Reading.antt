-- The results of the functions that read a line.
use Rattle.std.specs.Prelude.{◌≡◌, ℕ, List, Result, Ok, Err}
use Rattle.std.specs.Borrow.{Bor}
use Rattle.std.specs.Global.{Vec}
use Rattle.std.specs.declared.alloc.AllocError.{AllocError}
use Rattle.vll_lines.specs.declared.request.LineFault.{LineFault}
use Rattle.vll_lines.specs.declared.read_fault.ReadFault.{ReadFault}
use Rattle.vll_lines.specs.declared.read_fault.ReadFault.TheVariants.{NoMemory, Faulty}

-- the result is the reading, unless memory ran out
abbrev pub Gives : {A : Type 0} → Result A ReadFault → Result A LineFault → Type 0
Gives (Ok a) reading = reading ≡ Ok a
Gives (Err NoMemory) reading = Unit {0}
Gives (Err (Faulty why)) reading = reading ≡ Err why

-- `Gives` for a list
abbrev pub GivesArgs : Result (Vec ℕ) ReadFault → Result (List ℕ) LineFault → Type 0
GivesArgs (Ok v) reading = reading ≡ Ok v.items
GivesArgs (Err NoMemory) reading = Unit {0}
GivesArgs (Err (Faulty why)) reading = reading ≡ Err why

-- the name that is borrowed is the one read
abbrev pub Names : Result (Bor (List ℕ)) LineFault → Result (List ℕ) LineFault → Type 0
Names (Ok name) reading = reading ≡ Ok name.now
Names (Err why) reading = reading ≡ Err why

-- what was read or its fault, unless memory ran out
abbrev pub Settles : {A : Type 0} → Result A ReadFault → Result (Result A LineFault) AllocError → Type 0
Settles (Ok a) settled = settled ≡ Ok (Ok a)
Settles (Err NoMemory) (Ok it) = ⊥
Settles (Err NoMemory) (Err why) = Unit {0}
Settles (Err (Faulty why)) settled = settled ≡ Ok (Err why)
