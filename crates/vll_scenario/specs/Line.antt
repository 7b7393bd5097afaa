-- The words of a fault.
use Rattle.std.specs.Prelude.{ℕ, List, ◌++◌, codes}
use Rattle.std.specs.Fmt.{decimal}
use Rattle.vll_check.specs.declared.fault.CallFault.{CallFault}
use Rattle.vll_check.specs.declared.fault.CallFault.TheVariants as call
use Rattle.vll_check.specs.declared.fault.CheckFault.{CheckFault}
use Rattle.vll_check.specs.declared.fault.CheckFault.TheVariants as check
use Rattle.vll_scenario.specs.declared.fault.Part.{Part}
use Rattle.vll_scenario.specs.declared.fault.Part.TheVariants as part
use Rattle.vll_scenario.specs.declared.fault.ScenarioFault.{ScenarioFault}
use Rattle.vll_scenario.specs.declared.fault.ScenarioFault.TheVariants as fault
use Rattle.vll_scenario.specs.declared.fault.Spot.{Spot}

-- the name of a part
abbrev pub part_name : Part → List ℕ
part_name part.Top = codes "top"
part_name part.Version = codes "version"
part_name part.Records = codes "records"
part_name part.Procs = codes "procs"
part_name part.Clients = codes "clients"
part_name part.Cap = codes "cap"
part_name part.Bits = codes "bits"
part_name part.Limit = codes "limit"
part_name part.Hash = codes "hash"
part_name part.Schedule = codes "schedule"

-- a part and an index
abbrev pub spot_words : Spot → List ℕ
spot_words s = part_name s.part ++ codes " " ++ decimal s.index

-- the printed number of a procedure's fault
abbrev pub check_number : CheckFault → ℕ
check_number check.TooManyArgs = 1
check_number check.TooManyKeys = 2
check_number check.KeyArg = 3
check_number check.FixedRecord = 4
check_number check.UnknownKey = 5
check_number check.NotWritable = 6
check_number check.UnknownArg = 7
check_number check.UnknownLocal = 8
check_number check.UnsetLocal = 9
check_number check.TooManyReplies = 10
check_number check.TooDeep = 11
check_number check.TooLong = 12
check_number check.ThroughKey = 13
check_number check.TwoThrough = 14
check_number check.Turns = 15
check_number check.TooMuchWork = 16

-- the printed number of a call's fault
abbrev pub call_number : CallFault → ℕ
call_number call.UnknownProc = 1
call_number call.ArgCount = 2
call_number call.RecordRange = 3

-- the words of a fault
abbrev pub fault_words : ScenarioFault → List ℕ
fault_words fault.Read = codes "read"
fault_words fault.Json = codes "json"
fault_words (fault.Shape spot) = codes "shape " ++ spot_words spot
fault_words (fault.Check index why) = codes "check " ++ decimal index ++ codes " " ++ decimal (check_number why)
fault_words (fault.Call client index why) = codes "call " ++ decimal client ++ codes " " ++ decimal index ++ codes " " ++ decimal (call_number why)
fault_words fault.Size = codes "size"
fault_words fault.NoMemory = codes "no memory"
fault_words fault.NameTwice = codes "name twice"
