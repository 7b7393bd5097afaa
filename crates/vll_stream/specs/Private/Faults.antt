-- The faults of what the service calls.
use Rattle.vll_lines.specs.declared.round.RoundFault.{RoundFault}
use Rattle.vll_lines.specs.declared.round.RoundFault.TheVariants as round
use Rattle.vll_scenario.specs.declared.writing.WriteFault.{WriteFault}
use Rattle.vll_scenario.specs.declared.writing.WriteFault.TheVariants as write
use Rattle.vll_stream.specs.declared.fault.StreamFault.{StreamFault}
use Rattle.vll_stream.specs.declared.fault.StreamFault.TheVariants as fault

-- the fault of a text that was not written in full
abbrev pub fault_of : WriteFault → StreamFault
fault_of write.NoMemory = fault.NoMemory
fault_of write.Write = fault.Write

-- the fault of a round that was not read
abbrev pub fault_of_round : RoundFault → StreamFault
fault_of_round round.Read = fault.Read
fault_of_round round.NoMemory = fault.NoMemory
