-- What contracts see of the words and of the seats.
use Rattle.std.specs.Prelude.{◌≡◌, ℕ, ◌<◌, length, List, [], Option, Some, None, slice_get, option_map}
use Rattle.atomic_table.specs.Seated.{TableId}
use Rattle.vll_record.specs.declared.claim.Claim.{Claim}
use Rattle.vll_record.specs.declared.claim.Mode.TheVariants.{Read}
use Rattle.vll_proc.specs.declared.call.Call.{Call}
use Rattle.vll_check.specs.Headline.Catalog.{Catalog}
use Rattle.vll_sca.specs.declared.status.Status.{Status}
use Rattle.vll_core.specs.declared.line.Line.{Line}
use Rattle.vll_core.specs.Headline.State.{Base, catalog_of}
use Rattle.vll_counters.specs.declared.key.Key.{Key}
use Rattle.vll_counters.specs.declared.views.TurnView.{TurnView}
use Rattle.vll_counters.specs.declared.views.PassView.{PassView}
use Rattle.vll_counters.specs.declared.views.SessionView.{SessionView}
use Rattle.vll_counters.specs.declared.views.QueueView.{QueueView}
use Rattle.vll_counters.specs.declared.views.View.{View}
use Rattle.vll_counters.specs.declared.views.View.TheVariants.{Queue, Pass, Session}
use Rattle.vll_counters.specs.Written.{Write}
use Rattle.vll_counters.specs.Steps.{first_queue, new_session, new_pass, turn_ended, leaving, pass_given}

-- the base of the plain machine that a key names
abbrev pub base_of : Key → Base
base_of key = record { procs = key.library.value.procs; records = key.records.value.items }

-- the identity of the words, and what the rule on them is about
pub record WordsShown : Type 0 where
  pub table : TableId
  pub base : Base

-- the library of the base: its procedures, checked for its number of records
abbrev pub library_of : WordsShown → Catalog
library_of w = catalog_of w.base

-- what the queue's seat knows between two functions of `Words`, when no pass is joined to it, and its past
pub record QueueShown : Type 0 where
  pub table : TableId
  pub lines : List Line
  pub statuses : List Status
  pub turn : Option TurnView
  pub session : Option SessionView
  pub clients : ℕ
  pub past : List Write

-- what contracts see of a session's seat: the identity of its words, its view and its past
pub record SessionShown : Type 0 where
  pub table : TableId
  pub session : SessionView
  pub past : List Write

-- what contracts see of a pass's seat: the identity of its words, its view and its past
pub record PassShown : Type 0 where
  pub table : TableId
  pub pass : PassView
  pub past : List Write

-- the view that a queue's seat has
abbrev pub queue_view : QueueShown → QueueView
queue_view s = record { lines = s.lines; statuses = s.statuses; turn = s.turn; pass = None; session = s.session; clients = s.clients }

-- what the queue's seat knows in a view of it
abbrev pub queue_in : View → QueueView
queue_in (Queue q) = q
queue_in v = first_queue 0

-- what a session knows in a view of its seat
abbrev pub session_of : View → SessionView
session_of (Session g) = g
session_of v = new_session 0

-- a claim that stands for none
abbrev pub no_claim : Claim
no_claim = record { id = 0; mode = Read }

-- a call that stands for none
abbrev pub no_call : Call
no_call = record { number = 0; arg_count = 0; args = []; found = None; claims = []; cells = [] }

-- what a pass knows in a view of its seat
abbrev pub pass_of_view : View → PassView
pass_of_view (Pass p) = p
pass_of_view v = new_pass 0 no_call []

-- what contracts see of the queue's seat of a table, by its past and its view
abbrev pub shown_queue : TableId → List Write → QueueView → QueueShown
shown_queue id past q = record { table = id; lines = q.lines; statuses = q.statuses; turn = q.turn; session = q.session; clients = q.clients; past = past }

-- a queue's view with no pass joined to it
abbrev pub settled : QueueView → QueueView
settled q = record q { pass = None }

-- the same seat with another view, and the same past
abbrev pub after : QueueShown → QueueView → QueueShown
after s q = shown_queue s.table s.past q

-- the same pass's seat with another view, and the same past
abbrev pub passed : PassShown → PassView → PassShown
passed s p = record { table = s.table; pass = p; past = s.past }

-- the claim that the open turn requests next
abbrev pub next_claim : Option TurnView → Option Claim
next_claim None = None
next_claim (Some turn) = slice_get turn.call.claims turn.requested

-- the record of a claim, if there is one
abbrev pub record_of : Option Claim → Option ℕ
record_of claim = option_map (λ (c : Claim). c.id) claim

-- the queue once the session at it has left
abbrev pub without_session : QueueShown → QueueView
without_session s = record (turn_ended s.turn (queue_view s)) { session = None }

-- the session that leaves
abbrev pub left_session : QueueShown → Option ℕ → SessionView → SessionShown
left_session s given g = record { table = s.table; session = leaving given (turn_ended s.turn (queue_view s)) g; past = s.past }

-- the queue once a pass is given
abbrev pub with_pass_given : QueueShown → ℕ → QueueView
with_pass_given s t = pass_given t s.turn (queue_view s)

-- one session for each client, in order, which have seen nothing
abbrev pub AreNewSessions : TableId → ℕ → List SessionShown → Type 0
AreNewSessions table clients sessions = (length sessions ≡ clients) × ((c : ℕ) → c < clients → slice_get sessions c ≡ Some (record { table = table; session = new_session c; past = [] }))
