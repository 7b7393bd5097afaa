-- What holds in every state that lawful moves reach, for which calls it holds, and what holds for calls that run one at
-- a time.
use Rattle.std.specs.Prelude.{◌≡◌, ◌≢◌, ℕ, suc, ◌+◌, ◌≤◌, ◌<◌, true, false, not, List, ◌++◌, length, map, count_by, Some, None, Ok, All, slice_get, slice_index}
use Rattle.vll_record.specs.declared.claim.Claim.{Claim}
use Rattle.vll_record.specs.Headline.Claim.{is_write}
use Rattle.vll_record.specs.Headline.Counter.{claims_on}
use Rattle.vll_proc.specs.declared.call.Call.{Call}
use Rattle.vll_proc.specs.declared.syntax.Proc.{Proc}
use Rattle.vll_proc.specs.Headline.Serial.{Made, answer, before, end}
use Rattle.vll_check.specs.Calls.{Fits, IsReady}
use Rattle.vll_check.specs.Headline.Catalog.{Catalog}
use Rattle.vll_check.specs.Catalog.{IsCatalog}
use Rattle.vll_core.specs.declared.event.Event.{Event}
use Rattle.vll_core.specs.declared.event.Event.TheVariants as event
use Rattle.vll_core.specs.declared.seen.Seen.{Seen}
use Rattle.vll_core.specs.declared.seen.Seen.TheVariants.{Loaded}
use Rattle.vll_sca.specs.Headline.Status.{is_waiting}
use Rattle.vll_sca.specs.Status.{is_gone}
use Rattle.vll_sca.specs.Scan.{scan}
use Rattle.vll_core.specs.State.{Opening, Entered, State, Turn, entered, open_claims, counter, writes, records_before, value, is_clear}
use Rattle.vll_core.specs.Machine.{waiting, running_count, front, scanned, running, step, opened, run}
use Rattle.vll_core.specs.Moves.{Move, move, IsProper, AreProper, IsReached, Leads, requested_by, stored_by, released_by, delta_if, is_on}

-- every list of events, including refused ones, reaches such a state
abbrev pub EventListsReach : Type 0
EventListsReach = (o : Opening) (scripts : List (List Call)) (events : List Event) → AreProper o.base scripts → IsReached o (run o (opened scripts) events)

-- each ticket that is running or gone is clear
abbrev pub RunningTicketsAreClear : Type 0
RunningTicketsAreClear =
    (o : Opening) (s : State) (t : ℕ) (e : Entered)
    → IsReached o s → slice_get s.entries t ≡ Some e → is_waiting e.status ≡ false → is_clear s t e.call.claims ≡ true

-- the ticket that Front picks waits, and is clear
abbrev pub FrontTicketIsClear : Type 0
FrontTicketIsClear =
    (o : Opening) (s : State) (t : ℕ) (e : Entered)
    → IsReached o s → front s ≡ Some t → slice_get s.entries t ≡ Some e → (is_waiting e.status ≡ true) × (is_clear s t e.call.claims ≡ true)

-- the ticket that a scan finds waits, and is clear, whatever the places and the number of bits of the scan
abbrev pub ScanTicketIsClear : Type 0
ScanTicketIsClear =
    (o : Opening) (place : ℕ → ℕ) (bits : ℕ) (s : State) (t : ℕ) (e : Entered)
    → IsReached o s → scan place bits (map scanned s.entries) ≡ Some t → slice_get s.entries t ≡ Some e
    → (is_waiting e.status ≡ true) × (is_clear s t e.call.claims ≡ true)

-- while a turn is open, the entered calls are below the limit, and the waiting ones below the cap
abbrev pub OpenTurnsHaveRoom : Type 0
OpenTurnsHaveRoom =
    (o : Opening) (s : State) (turn : Turn)
    → IsReached o s → s.turn ≡ Some turn → (length s.entries < o.limit) × (waiting s < o.cap)

-- the number of waiting calls does not exceed the cap
abbrev pub WaitingStaysWithinTheCap : Type 0
WaitingStaysWithinTheCap = (o : Opening) (s : State) → IsReached o s → waiting s ≤ o.cap

-- a load by ticket t returns the value that the record has before ticket t if the calls run one at a time
abbrev pub LoadsSeeTheSerialState : Type 0
LoadsSeeTheSerialState =
    (o : Opening) (s next : State) (t v : ℕ) (e : Entered) (c : Claim)
    → IsReached o s → slice_get s.entries t ≡ Some e → slice_get e.call.claims e.loads ≡ Some c → step o s (event.Load t) ≡ Ok (Loaded v, next)
    → v ≡ slice_index (records_before o.base s t) c.id

-- a move adds the delta of the claim that it requests, subtracts that of the claim that it releases, and changes no
-- other counter
abbrev pub CountersChangeByDeltas : Type 0
CountersChangeByDeltas =
    (o : Opening) (s next : State) (m : Move) (seen : Seen) (r : ℕ)
    → move o s m ≡ Ok (seen, next) → counter next r + delta_if r (released_by s m) ≡ counter s r + delta_if r (requested_by s m)

-- a store by ticket t gives the record the value that it has after ticket t if the calls run one at a time
abbrev pub StoresMakeTheSerialState : Type 0
StoresMakeTheSerialState =
    (o : Opening) (s next : State) (t : ℕ) (e : Entered) (c : Claim) (seen : Seen)
    → IsReached o s → slice_get s.entries t ≡ Some e → slice_get (writes e.call) e.stores ≡ Some c → step o s (event.Store t) ≡ Ok (seen, next)
    → value o.base next c.id ≡ slice_index (records_before o.base next (suc t)) c.id

-- a move changes no value but that of the record that it stores
abbrev pub OtherValuesStay : Type 0
OtherValuesStay =
    (o : Opening) (s next : State) (m : Move) (seen : Seen) (r : ℕ)
    → IsReached o s → move o s m ≡ Ok (seen, next) → is_on r (stored_by s m) ≡ false → value o.base next r ≡ value o.base s r

-- a move does not change the records before a ticket that is given out or comes next, if the calls run one at a time
abbrev pub SerialStatesStay : Type 0
SerialStatesStay =
    (o : Opening) (s next : State) (m : Move) (seen : Seen) (t : ℕ)
    → move o s m ≡ Ok (seen, next) → t ≤ length s.entries → records_before o.base next t ≡ records_before o.base s t

-- no record has more open claims, nor more of either mode, than the limit of calls; so with a limit of at most 65,536
-- neither half of a counter wraps
abbrev pub CountersStayWithinTheLimit : Type 0
CountersStayWithinTheLimit =
    (o : Opening) (s : State) (r : ℕ) → IsReached o s
    → (length (claims_on r (open_claims s)) ≤ o.limit)
    × (count_by is_write (claims_on r (open_claims s)) ≤ o.limit)
    × (count_by (λ c. not (is_write c)) (claims_on r (open_claims s)) ≤ o.limit)

-- if no turn is open and no call waits or runs, each call is gone, each record has the value that the calls give it one
-- at a time in order of entry, and each counter is 0
abbrev pub FinishedMachinesHaveTheSerialEnd : Type 0
FinishedMachinesHaveTheSerialEnd =
    (o : Opening) (s : State)
    → IsReached o s → s.turn ≡ None → waiting s ≡ 0 → running_count s ≡ 0
    → ((t : ℕ) (e : Entered) → slice_get s.entries t ≡ Some e → is_gone e.status ≡ true)
    × ((r : ℕ) → (value o.base s r ≡ slice_index (end o.base.procs (entered s) o.base.records) r) × (counter s r ≡ 0))

-- a ready call is proper for the procedures of its library, whatever the records hold
abbrev pub ReadyCallIsProper : Type 0
ReadyCallIsProper =
    (c : Catalog) (records : List ℕ) (call : Call)
    → IsCatalog c → c.records ≡ length records → IsReady c call → IsProper (record { procs = c.procs; records = records }) call

-- scripts of calls that the library makes are proper
abbrev pub FittingScriptsAreProper : Type 0
FittingScriptsAreProper =
    (c : Catalog) (records : List ℕ) (scripts : List (List Call))
    → IsCatalog c → c.records ≡ length records → All (All (Fits c)) scripts → AreProper (record { procs = c.procs; records = records }) scripts

-- the records before a call of a list, or after its last one, do not depend on the calls that follow the list
abbrev pub LaterCallsLeaveSerialStates : Type 0
LaterCallsLeaveSerialStates =
    (procs : List Proc) (calls more : List Made) (records : List ℕ) (i : ℕ)
    → i ≤ length calls → before procs (calls ++ more) records i ≡ before procs calls records i

-- the reply of a call of a list does not depend on the calls that follow the list
abbrev pub LaterCallsLeaveSerialAnswers : Type 0
LaterCallsLeaveSerialAnswers =
    (procs : List Proc) (calls more : List Made) (records : List ℕ) (i : ℕ)
    → i < length calls → answer procs (calls ++ more) records i ≡ answer procs calls records i

-- a move leaves the entry of a ticket that is gone as it was
abbrev pub GoneTicketsStay : Type 0
GoneTicketsStay =
    (o : Opening) (s next : State) (m : Move) (seen : Seen) (t : ℕ) (e : Entered)
    → move o s m ≡ Ok (seen, next) → slice_get s.entries t ≡ Some e → is_gone e.status ≡ true → slice_get next.entries t ≡ Some e

-- no move takes a ticket that is running or gone back to waiting
abbrev pub StartedTicketsDoNotWait : Type 0
StartedTicketsDoNotWait =
    (o : Opening) (s next : State) (m : Move) (seen : Seen) (t : ℕ) (e : Entered)
    → move o s m ≡ Ok (seen, next) → slice_get s.entries t ≡ Some e → is_waiting e.status ≡ false
    → (f : Entered) × (slice_get next.entries t ≡ Some f) × (is_waiting f.status ≡ false)

-- a ticket that has run is not started again: whatever moves follow, if it does not run before a move, it does not run
-- after it
abbrev pub TicketsStartOnce : Type 0
TicketsStartOnce =
    (o : Opening) (s later next : State) (m : Move) (seen : Seen) (t : ℕ)
    → running s t ≢ None → Leads o s later → move o later m ≡ Ok (seen, next) → running later t ≡ None → running next t ≡ None
