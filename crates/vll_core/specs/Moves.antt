-- Lawful moves: the events of the machine, one that is wider than Front and Scan, and one that is wider than Enter. The
-- laws hold for all of them.
use Rattle.std.specs.Prelude.{◌≡◌, ◌≢◌, ℕ, Bool, false, not, List, length, Option, Some, None, Ok, All, is_some, slice_get, slice_index, ◌==◌, if◌then◌else◌}
use Rattle.vll_record.specs.declared.claim.Claim.{Claim}
use Rattle.vll_record.specs.declared.claim.Mode.TheVariants.{Write}
use Rattle.vll_record.specs.Claim.{IsRising, mode_on}
use Rattle.vll_proc.specs.declared.call.Call.{Call}
use Rattle.vll_proc.specs.Headline.Serial.{apply}
use Rattle.vll_check.specs.Headline.Calls.{source, with_found}
use Rattle.vll_core.specs.declared.event.Event.{Event}
use Rattle.vll_core.specs.declared.event.Event.TheVariants as event
use Rattle.vll_core.specs.declared.seen.Seen.{Seen}
use Rattle.vll_core.specs.declared.seen.Seen.TheVariants.{Run}
use Rattle.vll_sca.specs.declared.status.Status.TheVariants.{Running}
use Rattle.vll_core.specs.declared.refusal.Refusal.TheVariants.{TurnOpen, Idle}
use Rattle.vll_sca.specs.Headline.Status.{is_waiting}
use Rattle.vll_core.specs.Headline.State.{Base, catalog_of}
use Rattle.vll_core.specs.State.{Opening, Entered, Turn, State, delta_on, writes, is_clear}
use Rattle.vll_core.specs.Machine.{Outcome, refuse_if, or_refuse, enter, with_status, step, opened}

-- a call of checked procedures: its claims rise by record number, and it changes no record that it does not claim for
-- writing
pub record IsProper (o : Base) (call : Call) : Type 0 where
  pub rising : IsRising call.claims
  pub changes_its_own : (records : List ℕ) (r : ℕ) → length records ≡ length o.records → mode_on call.claims r ≢ Some Write → slice_index (apply o.procs call records).records r ≡ slice_index records r

-- a call is proper as it enters: as it is, or with whatever value is found if it has an indirect key
abbrev pub EntersProper : Base → Call → Type 0
EntersProper o call = elim (source (catalog_of o) call) [ None ↦ IsProper o call | Some r ↦ ((v : ℕ) → IsProper o (with_found (catalog_of o) call v)) ]

-- each call of each script is proper as it enters
abbrev pub AreProper : Base → List (List Call) → Type 0
AreProper o scripts = All (All (EntersProper o)) scripts

-- an event; a waiting ticket that is clear begins to run, even while a turn is open; or a turn opens for a call that is
-- passed in
pub data Move : Type 0 where
  by_event : Event → Move
  wake : ℕ → Move
  hand : ℕ → Call → Move

-- an entry, if it is Waiting
abbrev pub if_waiting : Option Entered → Option Entered
if_waiting None = None
if_waiting (Some e) = if is_waiting e.status then Some e else None

-- the answer to a move, and the next state
abbrev pub move : Opening → State → Move → Outcome
move o s (by_event e) = step o s e
move o s (wake t) = or_refuse (if_waiting (slice_get s.entries t)) Idle (λ e. refuse_if (not (is_clear s t e.call.claims)) Idle (Ok (Run t, with_status s t Running)))
move o s (hand client call) = refuse_if (is_some s.turn) TurnOpen (enter o s client (Some call) s.scripts s.kept)

-- a call that is passed in is proper
abbrev pub IsLawful : Opening → Move → Type 0
IsLawful o (by_event e) = Unit {0}
IsLawful o (wake t) = Unit {0}
IsLawful o (hand client call) = IsProper o.base call

-- the states that lawful moves reach from an opening with proper scripts
pub data IsReached (o : Opening) : State → Type 0 where
  begun : (scripts : List (List Call)) → AreProper o.base scripts → IsReached o (opened scripts)
  moved : (s : State) (m : Move) (seen : Seen) (next : State) → IsReached o s → IsLawful o m → move o s m ≡ Ok (seen, next) → IsReached o next

-- moves lead from one state to another
pub data Leads (o : Opening) (s : State) : State → Type 0 where
  stays : Leads o s s
  goes : (between : State) (m : Move) (seen : Seen) (next : State) → Leads o s between → move o between m ≡ Ok (seen, next) → Leads o s next

-- the next claim that a turn requests
abbrev pub turn_request : Option Turn → Option Claim
turn_request None = None
turn_request (Some turn) = slice_get turn.call.claims turn.requested

-- the next Write claim that an entry stores
abbrev pub entry_store : Option Entered → Option Claim
entry_store None = None
entry_store (Some e) = slice_get (writes e.call) e.stores

-- the next claim that an entry releases
abbrev pub entry_release : Option Entered → Option Claim
entry_release None = None
entry_release (Some e) = slice_get e.call.claims e.releases

-- the claim that a move requests
abbrev pub requested_by : State → Move → Option Claim
requested_by s (by_event event.Claim) = turn_request s.turn
requested_by s other = None

-- the claim whose record a move stores
abbrev pub stored_by : State → Move → Option Claim
stored_by s (by_event (event.Store t)) = entry_store (slice_get s.entries t)
stored_by s other = None

-- the claim that a move releases
abbrev pub released_by : State → Move → Option Claim
released_by s (by_event (event.Release t)) = entry_release (slice_get s.entries t)
released_by s other = None

-- what a claim, if there is one, adds to the counter of a record
abbrev pub delta_if : ℕ → Option Claim → ℕ
delta_if r None = 0
delta_if r (Some c) = delta_on r c

-- there is a claim, and it is on this record
abbrev pub is_on : ℕ → Option Claim → Bool
is_on r None = false
is_on r (Some c) = c.id == r
