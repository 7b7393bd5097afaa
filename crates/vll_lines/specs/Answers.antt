-- The answers to lines, and the last line of a service, by their JSON tokens.
use Rattle.std.specs.Prelude.{ℕ, List, [], ◌∷◌, ◌++◌, Option, Some, None, Result, Ok, Err, map, take, drop, codes}
use Rattle.std.specs.Fmt.{decimal}
use Rattle.json.specs.Print.{print}
use Rattle.json.specs.Token.{Token, begin_object, end_object, begin_array, end_array, key, string, number}
use Rattle.vll_proc.specs.Headline.Serial.{After, Made, apply}
use Rattle.vll_proc.specs.declared.call.Reason.{Reason}
use Rattle.vll_proc.specs.declared.call.Reason.TheVariants.{Code, Overflow, Underflow, ZeroDivisor, Moved}
use Rattle.vll_proc.specs.declared.call.Reply.{Reply}
use Rattle.vll_proc.specs.declared.call.Reply.TheVariants.{Committed, Aborted}
use Rattle.vll_proc.specs.declared.syntax.Proc.{Proc}
use Rattle.vll_scenario.specs.Shown.{shortened}
use Rattle.vll_lines.specs.declared.request.Request.{Request}
use Rattle.vll_lines.specs.declared.request.RecordRange.{RecordRange}
use Rattle.vll_lines.specs.Counts.{counted}
use Rattle.vll_lines.specs.declared.counts.Counts.{Counts}
use Rattle.vll_lines.specs.declared.counts.Rounds.{Rounds}
use Rattle.vll_lines.specs.declared.request.Asked.{Asked}
use Rattle.vll_lines.specs.declared.request.Asked.TheVariants as asked
use Rattle.vll_lines.specs.declared.request.Id.{Id}
use Rattle.vll_lines.specs.declared.request.Id.TheVariants as id
use Rattle.vll_lines.specs.declared.request.LineFault.{LineFault}
use Rattle.vll_lines.specs.declared.request.LineFault.TheVariants as fault

-- the words that are told of a fault
abbrev pub fault_words : LineFault → List ℕ
fault_words fault.Long = codes "the line has more than 65536 bytes"
fault_words fault.Empty = codes "the line is empty"
fault_words (fault.Json column) = codes "no JSON text: column " ++ decimal column
fault_words fault.Id = codes "id has to be a whole number or a text of at most 64 bytes"
fault_words fault.Object = codes "the line has to be an object with proc, args and perhaps client and id"
fault_words fault.Counts = codes "counts has to be true"
fault_words fault.Records = codes "records has to be a list of two whole numbers, the first record and how many"
fault_words fault.Range = codes "records has to ask for at most 1024 records, all of which there are"
fault_words fault.Client = codes "client has to be the number of a client"
fault_words fault.Proc = codes "proc has to be the name of a procedure"
fault_words fault.Args = codes "args has to be a list of whole numbers"
fault_words (fault.Arg index) = codes "argument " ++ decimal index ++ codes " has to be a whole number of 64 bits without a sign"
fault_words (fault.NoClient client) = codes "there is no client " ++ decimal client
fault_words (fault.NoProc name) = codes "no procedure has the name " ++ shortened name
fault_words (fault.ArgCount count) = codes "the number of arguments has to be " ++ decimal count
fault_words (fault.NoRecord index) = codes "argument " ++ decimal index ++ codes " has to be the number of a record"

-- tokens as a line: their text without spaces, and a line feed
abbrev pub line_of : List Token → List ℕ
line_of tokens = print tokens ++ 10 ∷ []

-- numbers, one after the other
abbrev pub number_tokens : List ℕ → List Token
number_tokens numbers = map (λ (n : ℕ). number (decimal n)) numbers

-- a list of numbers
abbrev pub numbers_tokens : List ℕ → List Token
numbers_tokens numbers = begin_array ∷ (number_tokens numbers ++ end_array ∷ [])

-- the id, if there is one
abbrev pub id_tokens : Option Id → List Token
id_tokens None = []
id_tokens (Some (id.Number n)) = key (codes "id") ∷ number (decimal n) ∷ []
id_tokens (Some (id.Text text)) = key (codes "id") ∷ string text ∷ []

-- why a call was aborted: the code, or a word
abbrev pub reason_tokens : Reason → List Token
reason_tokens (Code n) = number (decimal n) ∷ []
reason_tokens Overflow = string (codes "overflow") ∷ []
reason_tokens Underflow = string (codes "underflow") ∷ []
reason_tokens ZeroDivisor = string (codes "zero divisor") ∷ []
reason_tokens Moved = string (codes "moved") ∷ []

-- a reply
abbrev pub reply_tokens : Reply → List Token
reply_tokens (Committed outputs) = key (codes "committed") ∷ numbers_tokens outputs
reply_tokens (Aborted why) = key (codes "aborted") ∷ reason_tokens why

-- the answer to a call with this number
abbrev pub reply_line : Option Id → ℕ → Reply → List ℕ
reply_line it n reply = line_of (begin_object ∷ (id_tokens it ++ key (codes "call") ∷ number (decimal n) ∷ (reply_tokens reply ++ end_object ∷ [])))

-- the answer to a line that asks for nothing
abbrev pub fault_line : Option Id → LineFault → List ℕ
fault_line it why = line_of (begin_object ∷ (id_tokens it ++ key (codes "fault") ∷ string (fault_words why) ∷ end_object ∷ []))

-- a member that is a number
abbrev pub member_tokens : List ℕ → ℕ → List Token
member_tokens name n = key name ∷ number (decimal n) ∷ []

-- how many calls were aborted, by the reason
abbrev pub aborted_tokens : Counts → List Token
aborted_tokens counts =
    begin_object
    ∷ (member_tokens (codes "code") counts.code ++ (member_tokens (codes "overflow") counts.overflow ++ (member_tokens (codes "underflow") counts.underflow
    ++ (member_tokens (codes "zero divisor") counts.zero_divisor ++ (member_tokens (codes "moved") counts.moved ++ end_object ∷ [])))))

-- what a service has done so far
abbrev pub counts_tokens : Counts → Rounds → List Token
counts_tokens counts so_far =
    begin_object
    ∷ (member_tokens (codes "calls") counts.calls ++ key (codes "aborted")
    ∷ (aborted_tokens counts ++ (member_tokens (codes "rounds") so_far.rounds ++ (member_tokens (codes "most_lines") so_far.most_lines ++ end_object ∷ []))))

-- the answer to a line that asks for counts
abbrev pub counts_line : Option Id → Counts → Rounds → List ℕ
counts_line it counts so_far = line_of (begin_object ∷ (id_tokens it ++ key (codes "counts") ∷ (counts_tokens counts so_far ++ end_object ∷ [])))

-- these of the records
abbrev pub records_at : RecordRange → List ℕ → List ℕ
records_at range records = take range.count (drop range.first records)

-- the answer to a line that asks for records, with their values
abbrev pub records_line : Option Id → List ℕ → List ℕ
records_line it values = line_of (begin_object ∷ (id_tokens it ++ key (codes "records") ∷ (numbers_tokens values ++ end_object ∷ [])))

-- the last line of a service: the number of its calls, and the records as they have left them
abbrev pub end_line : ℕ → List ℕ → List ℕ
end_line calls records = line_of (begin_object ∷ key (codes "calls") ∷ number (decimal calls) ∷ key (codes "records") ∷ (numbers_tokens records ++ end_object ∷ []))

-- the answer to a line, and then the rest, for the counts and the records then, and for the calls and the rounds that are
-- left. A call is made on the records then, and those that a line asks for are told as they are then
abbrev pub with_answer : List Proc → Option Id → Result Asked LineFault → (Counts → List ℕ → List Made → List Rounds → List ℕ) → Counts → List ℕ → List Made → List Rounds → List ℕ
with_answer procs it (Err why) rest counts records calls rounds = fault_line it why ++ rest counts records calls rounds
with_answer procs it (Ok (asked.Call c)) rest counts records [] rounds = []
with_answer procs it (Ok (asked.Call c)) rest counts records (made ∷ calls) rounds =
    let after : After = apply procs made.1 records in reply_line it counts.calls after.reply ++ rest (counted counts after.reply) after.records calls rounds
with_answer procs it (Ok asked.Counts) rest counts records calls [] = []
with_answer procs it (Ok asked.Counts) rest counts records calls (so_far ∷ rounds) = counts_line it counts so_far ++ rest counts records calls rounds
with_answer procs it (Ok (asked.Records range)) rest counts records calls rounds = records_line it (records_at range records) ++ rest counts records calls rounds

-- the answers to lines, in order, after calls that are counted so and have left these records. The calls that the lines ask
-- for are made one at a time, each line that asks for counts tells the calls before it, and the next of these rounds, and
-- each that asks for records tells these as the calls before it have left them
abbrev pub answers : List Proc → List Request → Counts → List ℕ → List Made → List Rounds → List ℕ
answers procs [] counts records calls rounds = []
answers procs (a ∷ more) counts records calls rounds = with_answer procs a.id a.asked (answers procs more) counts records calls rounds
