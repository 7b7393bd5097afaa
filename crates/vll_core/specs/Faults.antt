-- Why nothing can be opened: the bounds on the number of records and on the configuration.
use Rattle.std.specs.Prelude.{◌≡◌, ℕ, Bool, ◌&&◌, nat_le, Option, Some, None, Result, Ok, Err, if◌then◌else◌}
use Rattle.vll_sca.specs.declared.bits.TheConstants.{MOST_BITS}
use Rattle.vll_core.specs.declared.config.TheConstants.{MOST_RECORDS, MOST_CALLS, MOST_WAITING}
use Rattle.vll_core.specs.declared.config.Config.{Config}
use Rattle.vll_core.specs.declared.config.OpenFault.{OpenFault}
use Rattle.vll_core.specs.declared.config.OpenFault.TheVariants.{Records, Limit, Cap, Bits, NoMemory}

-- a number is from 1 to `most`
abbrev pub is_up_to : ℕ → ℕ → Bool
is_up_to most n = nat_le 1 n && nat_le n most

-- why no queue can be opened: the first fault of the configuration
abbrev pub config_fault : Config → Option OpenFault
config_fault config =
    if is_up_to MOST_CALLS config.limit then
    (if is_up_to MOST_WAITING config.cap then (if is_up_to MOST_BITS config.bits then None else Some Bits) else Some Cap)
    else Some Limit

-- why no machine can be opened over this many records: the first fault that applies
abbrev pub open_fault : ℕ → Config → Option OpenFault
open_fault records config = if is_up_to MOST_RECORDS records then config_fault config else Some Records

-- if a fault applies, it is returned; if none does, the only possible fault is NoMemory
abbrev pub Refuses : {A : Type 0} → Option OpenFault → Result A OpenFault → Type 0
Refuses (Some fault) result = result ≡ Err fault
Refuses None (Ok opened) = Unit {0}
Refuses None (Err fault) = fault ≡ NoMemory
