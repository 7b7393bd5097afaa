-- What a line asks for, or why it asks for nothing.
use Rattle.std.specs.Prelude.{◌≡◌, ◌⊎◌, ◌+◌, ◌<◌, ◌≤◌, ℕ, Bool, true, false, List, [], ◌∷◌, length, nat_eq, nat_le, nat_lt, Option, Some, None, Result, Ok, Err, if◌then◌else◌, slice_get, codes}
use Rattle.serde_json.specs.Data.{Data, Items, no_items, item, null, boolean, number, string, array, object}
use Rattle.serde_json.specs.Find.{as_array, as_bool, as_str, get}
use Rattle.vll_proc.specs.declared.call.Call.{Call}
use Rattle.vll_proc.specs.declared.syntax.KeyAt.{KeyAt}
use Rattle.vll_proc.specs.declared.syntax.KeyAt.TheVariants as at
use Rattle.vll_proc.specs.declared.syntax.KeyDecl.{KeyDecl}
use Rattle.vll_proc.specs.declared.syntax.Proc.{Proc}
use Rattle.vll_check.specs.Calls.{call_made, place_is_there}
use Rattle.vll_check.specs.Headline.Catalog.{Catalog}
use Rattle.vll_check.specs.Names.{number_named}
use Rattle.vll_check.specs.declared.fault.CallFault.{CallFault}
use Rattle.vll_check.specs.declared.fault.CallFault.TheVariants as call
use Rattle.vll_scenario.specs.Scenario.{IsTree}
use Rattle.vll_scenario.specs.Shape.{◌>>=◌}
use Rattle.vll_scenario.specs.Syntax.{has_only, member_at}
use Rattle.vll_scenario.specs.Tree.{each, number_at, u32_at}
use Rattle.vll_lines.specs.declared.request.Request.{Request}
use Rattle.vll_lines.specs.declared.request.Asked.{Asked}
use Rattle.vll_lines.specs.declared.request.Asked.TheVariants as asked
use Rattle.vll_lines.specs.declared.request.Id.{Id}
use Rattle.vll_lines.specs.declared.request.Id.TheVariants as id
use Rattle.vll_lines.specs.declared.request.LineFault.{LineFault}
use Rattle.vll_lines.specs.declared.request.LineFault.TheVariants as fault
use Rattle.vll_lines.specs.declared.limits.TheConstants.{MOST_ID, MOST_LINE, MOST_READ}

-- the value, or a fault if there is none
abbrev pub or_fault : {A : Type 0} → LineFault → Option A → Result A LineFault
or_fault why None = Err why
or_fault why (Some a) = Ok a

-- a text that is short enough for an id
abbrev pub short_text : List ℕ → Result Id LineFault
short_text text = if nat_le (length text) MOST_ID then Ok (id.Text text) else Err fault.Id

-- a number or a text as an id
abbrev pub id_by : Option ℕ → Option (List ℕ) → Result Id LineFault
id_by (Some n) text = Ok (id.Number n)
id_by None None = Err fault.Id
id_by None (Some text) = short_text text

-- an id
abbrev pub id_in : Data → Result Id LineFault
id_in d = id_by (number_at d) (as_str d)

-- the id of a line, if it has one
abbrev pub id_of : Data → Result (Option Id) LineFault
id_of d = id_at (get (codes "id") d)
  where
    id_at : Option Data → Result (Option Id) LineFault
    id_at None = Ok None
    id_at (Some member) = do
      it ← id_in member
      Ok (Some it)

-- the members that a line may have that asks for a call
abbrev pub may_names : List (List ℕ)
may_names = codes "id" ∷ codes "client" ∷ codes "proc" ∷ codes "args" ∷ []

-- the members that a line may have that asks for counts
abbrev pub counts_names : List (List ℕ)
counts_names = codes "id" ∷ codes "counts" ∷ []

-- the members that a line may have that asks for records
abbrev pub records_names : List (List ℕ)
records_names = codes "id" ∷ codes "records" ∷ []

-- an object with no other members than these
abbrev pub has_no_other : List (List ℕ) → Data → Bool
has_no_other names null = false
has_no_other names (boolean b) = false
has_no_other names (number x) = false
has_no_other names (string s) = false
has_no_other names (array ds) = false
has_no_other names (object ms) = has_only names ms

-- counts are asked for by true
abbrev pub counts_if : Option Bool → Result Asked LineFault
counts_if None = Err fault.Counts
counts_if (Some true) = Ok asked.Counts
counts_if (Some false) = Err fault.Counts

-- the counts that a member asks for
abbrev pub counts_in : Data → Result Asked LineFault
counts_in d = counts_if (as_bool d)

-- the numbers of a list of two
abbrev pub two_numbers : Option ℕ → Option ℕ → Option (ℕ × ℕ)
two_numbers None b = None
two_numbers (Some a) None = None
two_numbers (Some a) (Some b) = Some (a, b)

-- the first record and how many, in a list of these two numbers
abbrev pub range_in : Items → Option (ℕ × ℕ)
range_in no_items = None
range_in (item a no_items) = None
range_in (item a (item b no_items)) = two_numbers (number_at a) (number_at b)
range_in (item a (item b (item c others))) = None

-- these records, out of so many, if they are not too many for a line
abbrev pub records_within : ℕ → Option (ℕ × ℕ) → Result Asked LineFault
records_within records None = Err fault.Records
records_within records (Some (first, count)) =
    if nat_le count MOST_READ then (if nat_le (first + count) records then Ok (asked.Records (record { first = first; count = count })) else Err fault.Range)
    else Err fault.Range

-- the records that a list asks for, if there is one
abbrev pub records_by : ℕ → Option Items → Result Asked LineFault
records_by records None = Err fault.Records
records_by records (Some ds) = records_within records (range_in ds)

-- the records, out of so many, that a member asks for
abbrev pub records_in : ℕ → Data → Result Asked LineFault
records_in records d = records_by records (as_array d)

-- the number of a client: 0 if it is left out
abbrev pub client_of : Data → Result ℕ LineFault
client_of d = client_in (get (codes "client") d)
  where
    client_in : Option Data → Result ℕ LineFault
    client_in None = Ok 0
    client_in (Some member) = or_fault fault.Client (u32_at member)

-- the name of a procedure
abbrev pub name_of : Data → Result (List ℕ) LineFault
name_of d = or_fault fault.Proc (as_str (member_at (codes "proc") d))

-- the arguments that were read, or the index of the first that is none
abbrev pub args_by : Result (List ℕ) ℕ → Result (List ℕ) LineFault
args_by (Ok numbers) = Ok numbers
args_by (Err i) = Err (fault.Arg i)

-- the arguments of a list, if there is one
abbrev pub args_in : Option Items → Result (List ℕ) LineFault
args_in None = Err fault.Args
args_in (Some ds) = args_by (each number_at ds)

-- the arguments
abbrev pub args_of : Data → Result (List ℕ) LineFault
args_of d = args_in (as_array (member_at (codes "args") d))

-- the procedure with a number, if a number is given
abbrev pub proc_at : List Proc → Option ℕ → Option Proc
proc_at procs None = None
proc_at procs (Some n) = slice_get procs n

-- the first procedure with a name
abbrev pub proc_named : List ℕ → List Proc → Option Proc
proc_named name procs = proc_at procs (number_named name procs)

-- the number of its arguments
abbrev pub declared_args : Option Proc → ℕ
declared_args None = 0
declared_args (Some p) = p.args

-- its keys
abbrev pub declared_keys : Option Proc → List KeyDecl
declared_keys None = []
declared_keys (Some p) = p.keys

-- the argument that names a key's record, if one does
abbrev pub arg_of : KeyAt → ℕ
arg_of (at.Fixed r) = 0
arg_of (at.Arg i) = i
arg_of (at.Through i) = 0

-- the argument by which the first of these keys names no record
abbrev pub no_record : ℕ → List ℕ → List KeyDecl → ℕ
no_record records args [] = 0
no_record records args (k ∷ ks) = if place_is_there records args k then no_record records args ks else arg_of k.at

-- what is told if the library does not make a call with a name and arguments
abbrev pub refusal : Catalog → List ℕ → List ℕ → CallFault → LineFault
refusal library name args call.UnknownProc = fault.NoProc name
refusal library name args call.ArgCount = fault.ArgCount (declared_args (proc_named name library.procs))
refusal library name args call.RecordRange = fault.NoRecord (no_record library.records args (declared_keys (proc_named name library.procs)))

-- a client's call, or why the library does not make it
abbrev pub made_by : Catalog → ℕ → List ℕ → List ℕ → Result Call CallFault → Result Asked LineFault
made_by library client name args (Ok made) = Ok (asked.Call (record { client = client; call = made }))
made_by library client name args (Err why) = Err (refusal library name args why)

-- the call that a JSON tree asks for, of a client below a number, or the first fault
abbrev pub call_asked : Catalog → ℕ → Data → Result Asked LineFault
call_asked library clients d =
    if has_no_other may_names d then
    (do
      client ← client_of d
      name ← name_of d
      args ← args_of d
      if nat_lt client clients then made_by library client name args (call_made library name args) else Err (fault.NoClient client))
    else Err fault.Object

-- what a JSON tree with this member `records`, or without one, asks for, or the first fault
abbrev pub records_or_call : Catalog → ℕ → Data → Option Data → Result Asked LineFault
records_or_call library clients d None = call_asked library clients d
records_or_call library clients d (Some member) = if has_no_other records_names d then records_in library.records member else Err fault.Object

-- what a JSON tree with this member `counts`, or without one, asks for, or the first fault
abbrev pub asked_by : Catalog → ℕ → Data → Option Data → Result Asked LineFault
asked_by library clients d None = records_or_call library clients d (get (codes "records") d)
asked_by library clients d (Some member) = if has_no_other counts_names d then counts_in member else Err fault.Object

-- what a JSON tree asks for, counts, records or a call of a client below a number, or the first fault
abbrev pub asked_of : Catalog → ℕ → Data → Result Asked LineFault
asked_of library clients d = asked_by library clients d (get (codes "counts") d)

-- a line with this id, or with a fault in its place, and what it asks for otherwise
abbrev pub request_with : Result (Option Id) LineFault → Result Asked LineFault → Request
request_with (Ok it) request = record { id = it; asked = request }
request_with (Err why) request = record { id = None; asked = Err why }

-- a line that is a JSON tree
abbrev pub request_of : Catalog → ℕ → Data → Request
request_of library clients d = request_with (id_of d) (asked_of library clients d)

-- what is told of a line that is no JSON text, which was read up to a column
abbrev pub no_text : List ℕ → ℕ → LineFault
no_text line column = if nat_eq (length line) 0 then fault.Empty else fault.Json column

-- what a line asks for: what its JSON tree does, or if it has none, that it is empty or the fault at some column
abbrev pub IsRequest : Catalog → ℕ → List ℕ → Request → Type 0
IsRequest library clients line request =
    ((tree : Data) × IsTree line (Some tree) × (request ≡ request_of library clients tree))
    ⊎ (IsTree line None × ((column : ℕ) × (request ≡ record { id = None; asked = Err (no_text line column) })))

-- what a line asks for, whatever its length
abbrev pub IsLine : Catalog → ℕ → List ℕ → Request → Type 0
IsLine library clients line request =
    ((MOST_LINE < length line) × (request ≡ record { id = None; asked = Err fault.Long }))
    ⊎ ((length line ≤ MOST_LINE) × IsRequest library clients line request)

-- what each of these lines asks for
abbrev pub AreRequests : Catalog → ℕ → List (List ℕ) → List Request → Type 0
AreRequests library clients [] [] = Unit {0}
AreRequests library clients [] (a ∷ more) = ⊥
AreRequests library clients (line ∷ lines) [] = ⊥
AreRequests library clients (line ∷ lines) (a ∷ more) = IsLine library clients line a × AreRequests library clients lines more
