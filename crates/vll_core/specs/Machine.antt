-- The plain machine: each event is refused, with the first refusal that applies, or has an answer and a next state.
use Rattle.std.specs.Prelude.{ℕ, ◌+◌, Bool, true, false, ◌&&◌, ◌||◌, ◌==◌, not, nat_lt, nat_le, List, [], ◌∷◌, ◌++◌, map, length, count_by, position, Option, Some, None, is_some, slice_get, slice_set, option_map, Result, Ok, Err, if◌then◌else◌}
use Rattle.vll_record.specs.declared.claim.Claim.{Claim}
use Rattle.vll_record.specs.Claim.{conflict}
use Rattle.vll_proc.specs.declared.call.Call.{Call}
use Rattle.vll_check.specs.Headline.Calls.{source, with_found}
use Rattle.vll_sca.specs.declared.status.Status.{Status}
use Rattle.vll_sca.specs.declared.status.Status.TheVariants.{Running, Waiting, Gone}
use Rattle.vll_sca.specs.Headline.Status.{is_waiting}
use Rattle.vll_sca.specs.Status.{is_running, is_gone}
use Rattle.vll_sca.specs.declared.entry.Entry.{Entry}
use Rattle.vll_sca.specs.Scan.{scan}
use Rattle.vll_core.specs.declared.event.Event.{Event}
use Rattle.vll_core.specs.declared.event.Event.TheVariants as event
use Rattle.vll_core.specs.declared.seen.Seen.{Seen}
use Rattle.vll_core.specs.declared.seen.Seen.TheVariants.{Found, Opened, Claimed, Free, Blocked, Run, Loaded, Stored, Released, Replied}
use Rattle.vll_core.specs.declared.refusal.Refusal.{Refusal}
use Rattle.vll_core.specs.declared.refusal.Refusal.TheVariants.{TurnOpen, NoTurn, NoCall, Spent, Busy, NotRunning, OutOfStep, Idle}
use Rattle.vll_core.specs.Headline.State.{Base, catalog_of}
use Rattle.vll_core.specs.State.{Opening, Entered, Turn, State, open_claims, counter, writes, reply_at, has_aborted, value}

-- a refusal, or an answer and the next state
abbrev pub Outcome : Type 0
Outcome = Result (Seen × State) Refusal

-- refused if a test holds
abbrev pub refuse_if : {A E : Type 0} → Bool → E → Result A E → Result A E
refuse_if true why go = Err why
refuse_if false why go = go

-- refused if there is no value to go on with
abbrev pub or_refuse : {A B E : Type 0} → Option A → E → (A → Result B E) → Result B E
or_refuse None why go = Err why
or_refuse (Some a) why go = go a

-- how many entered calls wait
abbrev pub waiting : State → ℕ
waiting s = count_by (λ (e : Entered). is_waiting e.status) s.entries

-- how many entered calls run
abbrev pub running_count : State → ℕ
running_count s = count_by (λ (e : Entered). is_running e.status) s.entries

-- the first call of a script, if there is a script and it has a call left
abbrev pub first_call : Option (List Call) → Option Call
first_call None = None
first_call (Some []) = None
first_call (Some (call ∷ more)) = Some call

-- the first call left of a client's script
abbrev pub next_call : State → ℕ → Option Call
next_call s c = first_call (slice_get s.scripts c)

-- a list without its first item
abbrev pub rest_of : {A : Type 0} → List A → List A
rest_of [] = []
rest_of (x ∷ xs) = xs

-- the scripts without a client's next call
abbrev pub used : State → ℕ → List (List Call)
used s c = elim (slice_get s.scripts c) [ None ↦ s.scripts | Some script ↦ slice_set s.scripts c (rest_of script) ]

-- a turn is open, and it is this client's
abbrev pub is_turn_of : ℕ → Option Turn → Bool
is_turn_of c None = false
is_turn_of c (Some turn) = turn.client == c

-- the value that is kept for a client's next call, if there is one
abbrev pub kept_for : State → ℕ → Option ℕ
kept_for s c = elim (slice_get s.kept c) [ None ↦ None | Some v ↦ v ]

-- the kept values, with another value or none for a client
abbrev pub keeping : State → ℕ → Option ℕ → List (Option ℕ)
keeping s c v = slice_set s.kept c v

-- a client's call as it enters: if it has an indirect key, with the value kept for it; without such a value it does not
-- enter
abbrev pub ready : Base → State → ℕ → Call → Option Call
ready o s c call = elim (source (catalog_of o) call) [ None ↦ Some call | Some r ↦ option_map (with_found (catalog_of o) call) (kept_for s c) ]

-- an entry, if it is Running
abbrev pub if_running : Option Entered → Option Entered
if_running None = None
if_running (Some e) = if is_running e.status then Some e else None

-- the entry of a ticket that is Running
abbrev pub running : State → ℕ → Option Entered
running s t = if_running (slice_get s.entries t)

-- the state with another entry for a ticket
abbrev pub with_entry : State → ℕ → Entered → State
with_entry s t e = record s { entries = slice_set s.entries t e }

-- the state with another status for a ticket
abbrev pub with_status : State → ℕ → Status → State
with_status s t status = elim (slice_get s.entries t) [ None ↦ s | Some e ↦ with_entry s t (record e { status = status }) ]

-- the lowest ticket that is not Gone, if it is Waiting
abbrev pub front : State → Option ℕ
front s = elim (position (λ (e : Entered). not (is_gone e.status)) s.entries) [
  | None ↦ None
  | Some t ↦ elim (slice_get s.entries t) [ None ↦ None | Some e ↦ if is_waiting e.status then Some t else None ]
]

-- an entered call as the contention analysis sees it
abbrev pub scanned : Entered → Entry
scanned e = record { claims = e.call.claims; status = e.status }

-- all loads and stores of a call are made; an aborted call has no stores
abbrev pub has_stored : Base → State → ℕ → Entered → Bool
has_stored o s t e =
    (e.loads == length e.call.claims) && (has_aborted o s t e || (e.stores == length (writes e.call)))

-- the source of a client's next call is loaded, and its value kept
abbrev pub find : Opening → State → ℕ → ℕ → Outcome
find o s c r = Ok (Found (value o.base s r), record s { kept = keeping s c (Some (value o.base s r)) })

-- a turn opens for a call, if it may enter
abbrev pub enter : Opening → State → ℕ → Option Call → List (List Call) → List (Option ℕ) → Outcome
enter o s c entering scripts kept =
    refuse_if (nat_le o.limit (length s.entries)) Spent
    (refuse_if (nat_le o.cap (waiting s)) Busy
    (or_refuse entering OutOfStep (λ call.
    Ok (Opened, record s { turn = Some (record { client = c; call = call; requested = 0; granted = true }); scripts = scripts; kept = kept }))))

-- a request is granted if no open claim conflicts with it
abbrev pub request : State → Turn → Claim → Outcome
request s turn c =
    let granted = not (conflict (open_claims s) (c ∷ [])) in
    Ok (Claimed (counter s c.id) granted, record s { turn = Some (record turn { requested = turn.requested + 1; granted = turn.granted && granted }) })

-- the call gets the next ticket
abbrev pub admit : State → Turn → Outcome
admit s turn =
    let entry : Status → Entered = λ status. record { client = turn.client; call = turn.call; status = status; loads = 0; stores = 0; releases = 0 } in
    let with : Status → State = λ status. record s { entries = s.entries ++ entry status ∷ []; turn = None } in
    if turn.granted then Ok (Free (length s.entries), with Running) else Ok (Blocked (length s.entries), with Waiting)

-- the answer to an event, and the next state
abbrev pub step : Opening → State → Event → Outcome
step o s (event.Find c) =
    refuse_if (is_turn_of c s.turn) TurnOpen
    (or_refuse (next_call s c) NoCall (λ call.
    or_refuse (source (catalog_of o.base) call) OutOfStep (find o s c)))
step o s (event.Enter c) =
    refuse_if (is_some s.turn) TurnOpen
    (or_refuse (next_call s c) NoCall (λ call. enter o s c (ready o.base s c call) (used s c) (keeping s c None)))
step o s event.Claim = or_refuse s.turn NoTurn (λ turn. or_refuse (slice_get turn.call.claims turn.requested) OutOfStep (request s turn))
step o s event.Admit = or_refuse s.turn NoTurn (λ turn. refuse_if (nat_lt turn.requested (length turn.call.claims)) OutOfStep (admit s turn))
step o s event.Front = refuse_if (is_some s.turn) TurnOpen (or_refuse (front s) Idle (λ t. Ok (Run t, with_status s t Running)))
step o s event.Scan =
    refuse_if (is_some s.turn) TurnOpen (or_refuse (scan o.place o.bits (map scanned s.entries)) Idle (λ t. Ok (Run t, with_status s t Running)))
step o s (event.Load t) =
    or_refuse (running s t) NotRunning (λ e.
    or_refuse (slice_get e.call.claims e.loads) OutOfStep (λ c.
    Ok (Loaded (value o.base s c.id), with_entry s t (record e { loads = e.loads + 1 }))))
step o s (event.Store t) =
    or_refuse (running s t) NotRunning (λ e.
    refuse_if (nat_lt e.loads (length e.call.claims) || has_stored o.base s t e) OutOfStep
    (Ok (Stored, with_entry s t (record e { stores = e.stores + 1 }))))
step o s (event.Release t) =
    or_refuse (running s t) NotRunning (λ e.
    refuse_if (not (has_stored o.base s t e)) OutOfStep
    (or_refuse (slice_get e.call.claims e.releases) OutOfStep (λ c.
    Ok (Released (counter s c.id), with_entry s t (record e { releases = e.releases + 1 })))))
step o s (event.Finish t) =
    refuse_if (is_some s.turn) TurnOpen (or_refuse (running s t) NotRunning (λ e.
    refuse_if (not (has_stored o.base s t e) || nat_lt e.releases (length e.call.claims)) OutOfStep
    (Ok (Replied (reply_at o.base s t e), with_entry s t (record e { status = Gone })))))

-- the machine begins with nothing entered and nothing kept
abbrev pub opened : List (List Call) → State
opened scripts = record { entries = []; turn = None; scripts = scripts; kept = map (λ (script : List Call). None) scripts }

-- the state after an event: a refusal changes nothing
abbrev pub state_after : State → Outcome → State
state_after s (Ok seen) = seen.1
state_after s (Err why) = s

-- the answer or the refusal of an outcome
abbrev pub answer_of : Outcome → Result Seen Refusal
answer_of (Ok seen) = Ok seen.0
answer_of (Err why) = Err why

-- that a turn was opened, or why not
abbrev pub entered : Outcome → Result (Unit {0}) Refusal
entered (Ok seen) = Ok tt
entered (Err why) = Err why

-- the answers to a list of events
abbrev pub answers : Opening → State → List Event → List (Result Seen Refusal)
answers o s [] = []
answers o s (e ∷ es) = let out = step o s e in answer_of out ∷ answers o (state_after s out) es

-- the state after a list of events
abbrev pub run : Opening → State → List Event → State
run o s [] = s
run o s (e ∷ es) = run o (state_after s (step o s e)) es
