-- The rule between any two atomic steps: the words and all views together show one state of the plain machine.
use Rattle.std.specs.Prelude.{◌≡◌, ℕ, suc, ◌<◌, List, map, take, Option, Some, None, slice_get, slice_index, option_map}
use mathlib.Core.Option as opt
use lib.ListN.{get_elem?}
use Rattle.atomic_table.specs.Table as table
use Rattle.vll_record.specs.declared.claim.Claim.{Claim}
use Rattle.vll_proc.specs.Headline.Serial.{Made, before}
use Rattle.vll_sca.specs.declared.status.Status.{Status}
use Rattle.vll_sca.specs.declared.status.Status.TheVariants.{Gone}
use Rattle.vll_core.specs.Headline.State.{Base}
use Rattle.vll_core.specs.State.{Opening, Entered, Turn, State, entered}
use Rattle.vll_core.specs.declared.config.TheConstants.{MOST_CALLS, MOST_WAITING}
use Rattle.vll_core.specs.Machine.{running}
use Rattle.vll_core.specs.Moves.{IsReached}
use Rattle.vll_core.specs.Journal.{journal_of}
use Rattle.vll_core.specs.Shown.{AreWords}
use Rattle.vll_counters.specs.declared.views.TurnView.{TurnView}
use Rattle.vll_counters.specs.declared.views.PassView.{PassView}
use Rattle.vll_counters.specs.declared.views.SessionView.{SessionView}
use Rattle.vll_counters.specs.declared.views.QueueView.{QueueView}
use Rattle.vll_counters.specs.declared.views.View.{View}
use Rattle.vll_counters.specs.declared.views.View.TheVariants.{Queue}
use Rattle.vll_counters.specs.Headline.Views.{calls_in, calls_by, Begins, pass_in}
use Rattle.vll_counters.specs.Views.{session_in, news_in}

-- the most permissive opening: as many calls as a machine can have, which may all wait. No step uses its hash
abbrev pub widest : Base → Opening
widest base = record { base = base; cap = MOST_WAITING; limit = MOST_CALLS; bits = 1; place = λ r. r }

-- the open turn, as the queue's seat knows it
abbrev pub turn_view : Option Turn → Option TurnView
turn_view turn = option_map (λ (t : Turn). record { client = t.client; call = t.call; requested = t.requested; granted = t.granted }) turn

-- the values of claimed records before ticket t, if these calls run one at a time
abbrev pub values_before : Base → List Made → ℕ → List Claim → List ℕ
values_before base calls t claims = map (λ (c : Claim). slice_index (before base.procs calls base.records t) c.id) claims

-- what the pass of an entry knows, if these are the entered calls
abbrev pub pass_for : Base → List Made → ℕ → Entered → PassView
pass_for base calls t e = record {
  ticket = t;
  call = e.call;
  seen = take (suc t) calls;
  loads = e.loads;
  stores = e.stores;
  releases = e.releases;
  loaded = values_before base calls t (take e.loads e.call.claims);
}

-- the pass of a ticket, if its call runs
abbrev pub pass_of : Base → State → ℕ → Option PassView
pass_of base s t = option_map (pass_for base (entered s) t) (running s t)

-- the queue's seat knows the state: each ticket's line, with the serial reply once the call is gone, and status; and
-- the open turn
pub record Shows (base : Base) (q : QueueView) (s : State) : Type 0 where
  pub reached : IsReached (widest base) s
  pub lines : q.lines ≡ journal_of base s
  pub statuses : q.statuses ≡ map (λ (e : Entered). e.status) s.entries
  pub turn : q.turn ≡ turn_view s.turn

-- an open turn is that of the session that has joined the queue's seat
abbrev pub IsHosted : Option TurnView → Option SessionView → Type 0
IsHosted None session = Unit {0}
IsHosted (Some turn) session = (g : SessionView) × (session ≡ Some g) × (g.client ≡ turn.client)

-- each pass that a seat has is the pass of its ticket, and no other seat has it; and each running ticket's pass is at
-- its seat
pub record ArePasses (pass : ℕ → Option PassView) (seat_of : ℕ → ℕ) (views : List View) : Type 0 where
  pub each : (seat : ℕ) (v : View) (p : PassView) → get_elem? views seat ≡ opt.some v → pass_in v ≡ Some p → (seat_of p.ticket ≡ seat) × (pass p.ticket ≡ Some p)
  pub all : (t : ℕ) (p : PassView) → pass t ≡ Some p → (v : View) × (get_elem? views (seat_of t) ≡ opt.some v) × (pass_in v ≡ Some p)

-- a session has seen a beginning of the entered calls, with all calls of its client, and each ticket whose reply it was given is gone
pub record HasSeen (calls : List Made) (statuses : List Status) (g : SessionView) : Type 0 where
  pub begins : Begins g.seen calls
  pub own : calls_by g.client g.seen ≡ calls_by g.client calls
  pub given : (k t : ℕ) → slice_get g.given k ≡ Some t → slice_get statuses t ≡ Some Gone

-- a session that a seat has is at that seat alone, is of a client of the opening, and has seen what `HasSeen` says
pub record IsSession (calls : List Made) (statuses : List Status) (clients : ℕ) (seat_of : ℕ → ℕ) (seat : ℕ) (g : SessionView) : Type 0 where
  pub there : seat_of g.client ≡ seat
  pub client : g.client < clients
  pub has_seen : HasSeen calls statuses g

-- each session that a seat has is such a session
abbrev pub AreSessions : List Made → List Status → ℕ → (ℕ → ℕ) → List View → Type 0
AreSessions calls statuses clients seat_of views =
    (seat : ℕ) (v : View) (g : SessionView) → get_elem? views seat ≡ opt.some v → session_in v ≡ Some g → IsSession calls statuses clients seat_of seat g

-- each news that a seat has is of a beginning of these calls
abbrev pub AreNews : List Made → List View → Type 0
AreNews calls views = (seat : ℕ) (v : View) (some : List Made) → get_elem? views seat ≡ opt.some v → news_in v ≡ Some some → Begins some calls

-- THE RULE. There is a state of the plain machine, reached by lawful moves, in which each value word is the record's
-- value and each pair word its counter; the queue's seat knows it; each running ticket has one pass and no other ticket
-- has any; each client has at most one session; and all news is of a beginning of the entered calls
module _ {S : Type 0} where
  pub record Rule (base : Base) (t : table.State S View) : Type 0 where
    pub state : State
    pub queue : QueueView
    pub pass_seat : ℕ → ℕ
    pub session_seat : ℕ → ℕ
    pub at_queue : get_elem? t.views 0 ≡ opt.some (Queue queue)
    pub shows : Shows base queue state
    pub words : AreWords base state t.words
    pub hosted : IsHosted queue.turn queue.session
    pub passes : ArePasses (pass_of base state) pass_seat t.views
    pub sessions : AreSessions (calls_in queue.lines) queue.statuses queue.clients session_seat t.views
    pub news : AreNews (calls_in queue.lines) t.views

-- the words and the views at some moment
abbrev pub Moment : Type 0
Moment = table.State (Unit {0}) View
