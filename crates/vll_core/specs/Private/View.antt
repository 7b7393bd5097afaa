-- The state that a machine represents.
use Rattle.std.specs.Prelude.{ℕ, List, [], ◌∷◌, drop, Option, Some, None}
use Rattle.std.specs.Global.{Vec}
use Rattle.vll_proc.specs.declared.call.Call.{Call}
use Rattle.vll_core.specs.declared.machine.OpenTurn.{OpenTurn}
use Rattle.vll_core.specs.declared.machine.Machine.TheInside.{Inside}
use Rattle.vll_core.specs.declared.execution.Execution.{Execution}
use Rattle.vll_core.specs.Queue.{QueueEntry}
use Rattle.vll_core.specs.State.{Entered, Turn}
use Rattle.vll_core.specs.Shown.{Shown}

-- an entry of the queue with its call's steps
abbrev pub entered_of : QueueEntry → Execution → Entered
entered_of e w = record { client = e.line.client; call = e.line.call; status = e.status; loads = w.loads; stores = w.stores; releases = w.releases }

abbrev pub entries_of : List QueueEntry → List Execution → List Entered
entries_of [] ws = []
entries_of (e ∷ es) [] = []
entries_of (e ∷ es) (w ∷ ws) = entered_of e w ∷ entries_of es ws

abbrev pub turn_of : Option OpenTurn → Option Turn
turn_of None = None
turn_of (Some t) = Some (record { client = t.client; call = t.call; requested = t.requested; granted = t.granted })

-- for each script, the calls from its next one on
abbrev pub left_of : List (Vec Call) → List ℕ → List (List Call)
left_of [] ns = []
left_of (v ∷ vs) [] = []
left_of (v ∷ vs) (n ∷ ns) = drop n v.items ∷ left_of vs ns

abbrev pub shown : {H : Type 0} → Inside H → Shown H
shown c = record {
  base = record { procs = c.library.value.procs; records = c.opening.value.items };
  cap = c.queue.cap;
  limit = c.queue.limit;
  bits = c.queue.bits;
  hash = c.queue.hash;
  state = record { entries = entries_of c.queue.entries c.execution.items; turn = turn_of c.turn; scripts = left_of c.scripts.items c.next.items; kept = c.kept.items };
}
