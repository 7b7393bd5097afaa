-- The invariant of the machine's type.
use Rattle.std.specs.Prelude.{◌≡◌, ℕ, ◌≤◌, true, List, length, map, Some, All, IfSome, slice_get, vec_capacity}
use Rattle.std.specs.Global.{Vec}
use Rattle.vll_proc.specs.declared.call.Call.{Call}
use Rattle.vll_proc.specs.Headline.Serial.{Made, before}
use Rattle.vll_check.specs.Calls.{Fits, IsReady}
use Rattle.vll_check.specs.Headline.Catalog.{Catalog}
use Rattle.vll_check.specs.Catalog.{IsCatalog}
use Rattle.vll_core.specs.declared.config.TheConstants.{MOST_RECORDS}
use Rattle.vll_core.specs.declared.machine.OpenTurn.{OpenTurn}
use Rattle.vll_core.specs.declared.machine.Machine.TheInside.{Inside}
use Rattle.vll_core.specs.declared.execution.Execution.{Execution}
use Rattle.vll_sca.specs.Status.{is_gone}
use Rattle.vll_core.specs.Queue.{QueueEntry, IsQueued}
use Rattle.vll_core.specs.Moves.{IsReached}
use Rattle.vll_core.specs.Shown.{AreWords, opening_of}
use Rattle.vll_core.specs.Private.View.{shown}
use Rattle.vll_core.specs.Private.Execution.{IsAtWork}

-- the calls in order of entry
abbrev pub made_of : List QueueEntry → List Made
made_of es = map (λ (e : QueueEntry). (e.line.client, e.line.call)) es

-- each ticket's execution is that of its call, on the records before it
abbrev pub AreAtWork : Catalog → List ℕ → List QueueEntry → List Execution → Type 0
AreAtWork c records es ws =
    (t : ℕ) (e : QueueEntry) (w : Execution) → slice_get es t ≡ Some e → slice_get ws t ≡ Some w
    → IsAtWork c.procs e.line.call (before c.procs (made_of es) records t) w

-- a finished call's line has the reply of its execution
abbrev pub AreReplied : List QueueEntry → List Execution → Type 0
AreReplied es ws =
    (t : ℕ) (e : QueueEntry) (w : Execution) → slice_get es t ≡ Some e → slice_get ws t ≡ Some w → is_gone e.status ≡ true → e.line.reply ≡ w.reply

-- lawful moves reach the state, the words are those of the state, each call that has entered or is about to is ready,
-- the library makes the calls of the scripts, each call's execution is right for the records before it, and while a turn is
-- open there is room for one more call to wait
pub record IsMachine {H : Type 0} (place : H → ℕ → ℕ) (c : Inside H) : Type 0 where
  pub reached : IsReached (opening_of place (shown c)) (shown c).state
  pub words : AreWords (shown c).base (shown c).state c.words.items
  pub some_records : 1 ≤ length c.opening.value.items
  pub few_records : length c.opening.value.items ≤ MOST_RECORDS
  pub records : c.library.value.records ≡ length c.opening.value.items
  pub catalog : IsCatalog c.library.value
  pub queue : IsQueued c.queue
  pub works : length c.execution.items ≡ length c.queue.entries
  pub room : c.queue.limit ≤ vec_capacity c.execution
  pub nexts : length c.next.items ≡ length c.scripts.items
  pub kepts : length c.kept.items ≡ length c.scripts.items
  pub entries_ready : All (λ (e : QueueEntry). IsReady c.library.value e.line.call) c.queue.entries
  pub turn_ready : IfSome c.turn (λ (t : OpenTurn). IsReady c.library.value t.call)
  pub scripts_fit : All (λ (v : Vec Call). All (Fits c.library.value) v.items) c.scripts.items
  pub at_work : AreAtWork c.library.value c.opening.value.items c.queue.entries c.execution.items
  pub replied : AreReplied c.queue.entries c.execution.items
