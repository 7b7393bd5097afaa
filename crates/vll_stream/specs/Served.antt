-- What a service writes for its input.
use Rattle.std.specs.Prelude.{◌≡◌, ℕ, Bool, true, false, List, ◌++◌, length, map, nat_eq, not, Option, ⊤}
use Rattle.std.specs.Io.KnownBytes.{Appends, Consumes, IsAtEnd}
use Rattle.std.specs.List.{list_all}
use Rattle.vll_proc.specs.declared.call.Call.{Call}
use Rattle.vll_proc.specs.Headline.Serial.{Made, end}
use Rattle.vll_check.specs.Calls.{bare}
use Rattle.vll_core.specs.Headline.State.{Base}
use Rattle.vll_queue.specs.Headline.Found.{AreFoundThere}
use Rattle.vll_scenario.specs.Headline.Setup.{Setup, catalog_of}
use Rattle.vll_scenario.specs.Streams.{AppendsBeginning}
use Rattle.vll_lines.specs.Answers.{answers, end_line}
use Rattle.vll_lines.specs.Request.{AreRequests}
use Rattle.vll_lines.specs.Lines.{CutsInto, has_feed, lines_in}
use Rattle.vll_lines.specs.Calls.{call_shown, calls_of, counts_asked}
use Rattle.vll_lines.specs.Counts.{none_counted}
use Rattle.vll_lines.specs.declared.counts.Rounds.{Rounds}
use Rattle.vll_lines.specs.declared.request.Request.{Request}
use Rattle.vll_stream.specs.declared.fault.StreamFault.{StreamFault}
use Rattle.vll_stream.specs.declared.fault.StreamFault.TheVariants as fault

-- the procedures and the records of a scenario
abbrev pub base_of : Setup → Base
base_of s = record { procs = s.procs; records = s.records }

-- whether a script has no call
abbrev pub is_none : List Call → Bool
is_none script = nat_eq (length script) 0

-- whether a scenario has calls of its own
abbrev pub has_calls : Setup → Bool
has_calls s = not (list_all is_none s.scripts)

-- a client and its call, without what the call has found
abbrev pub made_shown : Made → ℕ × Call
made_shown m = (m.0, bare m.1)

-- these are the calls that lines ask for, in the order of the lines, whatever they have found
abbrev pub AreOrdered : List Request → List Made → Type 0
AreOrdered requests calls = map call_shown (calls_of requests) ≡ map made_shown calls

-- a text answers lines by these calls: they are the calls that the lines ask for, in order, each with what it has found, and
-- the text has for each line its answer, which is the number and the reply of its call if the calls run one at a time in this
-- order from the scenario's records, or how many calls were made for the lines before it and how many of them were aborted,
-- by the reason, or the records that it asks for, as these calls have left them, or its fault. Each value found was in its
-- source. What is told of rounds is left open
pub record AreAnswered (s : Setup) (lines : List (List ℕ)) (calls : List Made) (text : List ℕ) : Type 0 where
  pub requests : List Request
  pub read : AreRequests (catalog_of s) (length s.scripts) lines requests
  pub ordered : AreOrdered requests calls
  pub found : AreFoundThere (base_of s) calls
  pub rounds : List Rounds
  pub told : length rounds ≡ counts_asked requests
  pub written : text ≡ answers s.procs requests none_counted s.records calls rounds

-- the last line of a service that has made these calls: their number, and the records as they leave them
abbrev pub last_line : Setup → List Made → List ℕ
last_line s calls = end_line (length calls) (end s.procs calls s.records)

-- a service of a scenario has answered an input: all its lines, by one list of calls, and then its last line
pub record IsServed (s : Setup) (input output : List ℕ) : Type 0 where
  pub calls : List Made
  pub text : List ℕ
  pub answered : AreAnswered s (lines_in input) calls text
  pub written : output ≡ text ++ last_line s calls

-- the input was read to its end, and this holds of the text that answers it
pub record ServesLines (s : Setup) (old new : Option (List ℕ)) (Holds : List ℕ → Type 0) : Type 0 where
  pub input : List ℕ
  pub read : Consumes old new input
  pub ended : IsAtEnd new
  pub output : List ℕ
  pub served : IsServed s input output
  pub holds : Holds output

-- what was written if a service has ended early, for this reason, over these answers, which go up to the end of the input
-- or not, and this last line: if the output failed, a beginning, and otherwise the answers, and nothing else
abbrev pub Wrote : StreamFault → Bool → Option (List ℕ) → Option (List ℕ) → List ℕ → List ℕ → Type 0
Wrote fault.Write true old new text last = AppendsBeginning old new (text ++ last)
Wrote fault.Write false old new text last = AppendsBeginning old new text
Wrote fault.Calls is_last old new text last = Appends old new text
Wrote fault.Read is_last old new text last = Appends old new text
Wrote fault.NoMemory is_last old new text last = Appends old new text
Wrote fault.Unfinished is_last old new text last = Appends old new text

-- where a service has ended early: if the input failed, before the input's end and once every complete line is answered;
-- if the output failed, once every complete line is answered
abbrev pub Stopped : StreamFault → Bool → List ℕ → Type 0
Stopped fault.Read is_last tail = (is_last ≡ false) × (has_feed tail ≡ false)
Stopped fault.Write is_last tail = has_feed tail ≡ false
Stopped fault.Calls is_last tail = ⊤
Stopped fault.NoMemory is_last tail = ⊤
Stopped fault.Unfinished is_last tail = ⊤

-- a service of a scenario has ended early, for this reason: the first lines of the input that was read, or all of them at
-- its end, are answered by one list of calls as if nothing had come after them, and the rest of it is a tail
pub record EndsEarly (s : Setup) (why : StreamFault) (old new from to : Option (List ℕ)) : Type 0 where
  pub input : List ℕ
  pub read : Consumes old new input
  pub is_last : Bool
  pub lines : List (List ℕ)
  pub tail : List ℕ
  pub cut : CutsInto is_last input lines tail
  pub calls : List Made
  pub text : List ℕ
  pub answered : AreAnswered s lines calls text
  pub stopped : Stopped why is_last tail
  pub wrote : Wrote why is_last from to text (last_line s calls)
