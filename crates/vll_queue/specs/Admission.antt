-- The queue and the open turn when a call begins.
use Rattle.std.specs.Prelude.{◌≡◌, ℕ, Bool, List, true, false, length, slice_get, Option, Some, None}
use Rattle.vll_proc.specs.declared.call.Call.{Call}
use Rattle.vll_core.specs.declared.line.Line.{Line}
use Rattle.vll_core.specs.Queue.{Queued, admitted, entry}
use Rattle.vll_counters.specs.declared.views.TurnView.{TurnView}
use Rattle.vll_queue.specs.declared.begun.BeginRefusal.{BeginRefusal}
use Rattle.vll_counters.specs.Shown.{PassShown}
use Rattle.vll_queue.specs.declared.begun.Admission.{Admission}
use Rattle.vll_queue.specs.declared.begun.Admission.TheVariants as admission
use Rattle.vll_queue.specs.declared.begun.Begun.{Begun}
use Rattle.vll_queue.specs.declared.begun.Begun.TheVariants.{Free, Blocked, Refused}

-- the turn of a call that has requested nothing
abbrev pub first_turn : ℕ → Call → TurnView
first_turn client call = record { client = client; call = call; requested = 0; granted = true }

-- the turn of a call that has requested all its claims, and whether all were granted
abbrev pub asked_turn : ℕ → Call → Bool → TurnView
asked_turn client call free = record { client = client; call = call; requested = length call.claims; granted = free }

-- the queue after a call began or was refused; a refusal changes nothing
abbrev pub begun_by : {H : Type 0} → Queued H → ℕ → Call → Begun → Queued H
begun_by q client call (Free pass) = admitted q (entry client call true)
begun_by q client call (Blocked ticket) = admitted q (entry client call false)
begun_by q client call (Refused why) = q

-- the answer is a refusal exactly if there is a reason for one
abbrev pub IsRefusedBy : Option BeginRefusal → Begun → Type 0
IsRefusedBy refusal (Free pass) = refusal ≡ None
IsRefusedBy refusal (Blocked ticket) = refusal ≡ None
IsRefusedBy refusal (Refused why) = refusal ≡ Some why

-- the answer that the client gets of the answer at the lock: a pass is shown as its seat is
abbrev pub begun : Admission → Begun
begun (admission.Free seat ticket) = Free seat
begun (admission.Blocked ticket) = Blocked ticket
begun (admission.Refused why) = Refused why

-- the seat of a free call is this call's, at its ticket
abbrev pub IsSeatOf : Call → Admission → Type 0
IsSeatOf call (admission.Free seat ticket) = (seat.pass.ticket ≡ ticket) × (seat.pass.call ≡ call)
IsSeatOf call (admission.Blocked ticket) = Unit {0}
IsSeatOf call (admission.Refused why) = Unit {0}

-- a seat at a ticket has the call of the ticket's line
pub record IsPassAt (ls : List Line) (seat : PassShown) (ticket : ℕ) : Type 0 where
  pub line : Line
  pub at : slice_get ls ticket ≡ Some line
  pub ticket_is : seat.pass.ticket ≡ ticket
  pub call_is : seat.pass.call ≡ line.call
