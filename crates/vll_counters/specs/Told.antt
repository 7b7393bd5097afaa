-- What the caller of each step learns, besides its new view.
use Rattle.std.specs.List.{list_any}
use Rattle.std.specs.Prelude.{◌≡◌, ℕ, suc, ◌+◌, ◌*◌, ◌<◌, ◌≤◌, ◌&&◌, ◌||◌, ◌==◌, Bool, true, false, List, length, take, Option, Some, None, slice_get, slice_index}
use mathlib.Core.Option as opt
use lib.ListN.{get_elem?}
use Rattle.atomic_table.specs.Table.{Me, Step}
use Rattle.vll_record.specs.declared.claim.Claim.{Claim}
use Rattle.vll_record.specs.Claim.{conflict}
use Rattle.vll_record.specs.Headline.Word.{pair_word_of_record}
use Rattle.vll_record.specs.Word.{value_word_of}
use Rattle.vll_proc.specs.declared.call.Call.{Call}
use Rattle.vll_sca.specs.declared.status.Status.{Status}
use Rattle.vll_sca.specs.declared.status.Status.TheVariants.{Running, Waiting, Gone}
use Rattle.vll_sca.specs.Status.{is_gone}
use Rattle.vll_core.specs.Headline.State.{Base}
use Rattle.vll_core.specs.State.{entered, counter, value, writes, is_aborted, is_clear}
use Rattle.vll_core.specs.declared.line.Line.{Line}
use Rattle.vll_proc.specs.Headline.Serial.{Made, answer, before, end}
use Rattle.vll_counters.specs.declared.views.TurnView.{TurnView}
use Rattle.vll_counters.specs.declared.views.PassView.{PassView}
use Rattle.vll_counters.specs.declared.views.SessionView.{SessionView}
use Rattle.vll_counters.specs.declared.views.QueueView.{QueueView}
use Rattle.vll_counters.specs.declared.views.View.{View}
use Rattle.vll_counters.specs.declared.views.View.TheVariants.{Queue, Pass, Session}
use Rattle.vll_counters.specs.Headline.Views.{calls_in, calls_by, Begins}
use Rattle.vll_counters.specs.Rule.{HasSeen, Moment, Rule}
use Rattle.vll_counters.specs.Shown.{session_of}
use Rattle.vll_counters.specs.Steps.{on_queue, on_pass, on_session, told, opened, requested, loaded, stored, released, ended, records_before_pass, reply_of_pass}

-- a fact about the view of the queue's seat
abbrev pub AtQueue : (QueueView → Type 0) → View → Type 0
AtQueue P (Queue q) = P q
AtQueue P v = Unit {0}

-- a fact about the view of a pass
abbrev pub AtPass : (PassView → Type 0) → View → Type 0
AtPass P (Pass p) = P p
AtPass P v = Unit {0}

-- a moment at which the rule holds, and the queue's seat has this view
pub record QueueMoment (base : Base) (q : QueueView) : Type 0 where
  pub moment : Moment
  pub rule : Rule base moment
  pub at : get_elem? moment.views 0 ≡ opt.some (Queue q)

-- a moment at which the rule holds, and a seat has this pass
pub record PassMoment (base : Base) (p : PassView) : Type 0 where
  pub moment : Moment
  pub rule : Rule base moment
  pub seat : ℕ
  pub at : get_elem? moment.views seat ≡ opt.some (Pass p)

-- at each moment at which a seat has this pass, no claim that a lower ticket has requested and not released conflicts
-- with a claim of its call
abbrev pub IsClear : Base → PassView → Type 0
IsClear base p = (now : PassMoment base p) → is_clear now.rule.state p.ticket p.call.claims ≡ true

-- a fact about the view of a session
abbrev pub AtSession : (SessionView → Type 0) → View → Type 0
AtSession P (Session g) = P g
AtSession P v = Unit {0}

-- a moment at which the rule holds, and a seat has this session
pub record SessionMoment (base : Base) (g : SessionView) : Type 0 where
  pub moment : Moment
  pub rule : Rule base moment
  pub seat : ℕ
  pub at : get_elem? moment.views seat ≡ opt.some (Session g)

-- this is the record's counter at a moment of the queue's seat that has these words
pub record IsCounterNow (base : Base) (q : QueueView) (words : List ℕ) (r n : ℕ) : Type 0 where
  pub now : QueueMoment base q
  pub words_are : now.moment.words ≡ words
  pub counts : n ≡ counter now.rule.state r

-- this is the record's present value at a moment of the pass, and the value before the pass's ticket, if the entered calls run one at a time
pub record IsValueNow (base : Base) (p : PassView) (r n : ℕ) : Type 0 where
  pub now : PassMoment base p
  pub present : n ≡ value base now.rule.state r
  pub serial : n ≡ slice_index (records_before_pass base p) r

-- this is the record's counter at a moment of the pass that has these words
pub record IsCountedNow (base : Base) (p : PassView) (words : List ℕ) (r n : ℕ) : Type 0 where
  pub now : PassMoment base p
  pub words_are : now.moment.words ≡ words
  pub counts : n ≡ counter now.rule.state r

-- a call claims a record
abbrev pub is_claimed_by : Call → ℕ → Bool
is_claimed_by call r = list_any (λ (c : Claim). c.id == r) call.claims

-- a value that a record had: if these calls run one at a time, it is the record's value before some ticket up to a
-- bound, which comes after each of these given tickets whose call claims the record
pub record WasThere (base : Base) (calls : List Made) (given : List ℕ) (bound r v : ℕ) : Type 0 where
  pub ticket : ℕ
  pub within : ticket ≤ bound
  pub value : v ≡ slice_index (before base.procs calls base.records ticket) r
  pub behind : (k t : ℕ) (m : Made) → slice_get given k ≡ Some t → slice_get calls t ≡ Some m → is_claimed_by m.1 r ≡ true → t < ticket

-- a session has found a record's present value, at a moment of its own that has these words: it has then seen all calls
-- that have entered, with no more of its own client; each ticket whose reply it was given is one of theirs, and in
-- their serial run the value was there
pub record HasFound (base : Base) (old new : SessionView) (words : List ℕ) (r v : ℕ) : Type 0 where
  pub now : SessionMoment base old
  pub words_are : now.moment.words ≡ words
  pub present : v ≡ value base now.rule.state r
  pub same : new ≡ told new.seen old
  pub seen : new.seen ≡ entered now.rule.state
  pub begins : Begins old.seen new.seen
  pub own : calls_by old.client old.seen ≡ calls_by old.client new.seen
  pub given : (k t : ℕ) → slice_get old.given k ≡ Some t → t < length new.seen
  pub was : WasThere base new.seen old.given (length new.seen) r v

-- each line of a call that is gone has its serial reply
abbrev pub AreReplied : Base → QueueView → Type 0
AreReplied base q =
    (t : ℕ) (l : Line) → slice_get q.lines t ≡ Some l → slice_get q.statuses t ≡ Some Gone → l.reply ≡ answer base.procs (calls_in q.lines) base.records t

-- what the queue's seat learns of the session that has joined it, and of its own lines
pub record KnowsSession (base : Base) (q : QueueView) (g : SessionView) : Type 0 where
  pub client : g.client < q.clients
  pub has_seen : HasSeen (calls_in q.lines) q.statuses g
  pub replied : AreReplied base q

-- what the queue's seat learns of the pass that has joined it: its ticket runs, and it has seen the calls up to its own
pub record KnowsPass (q : QueueView) (p : PassView) : Type 0 where
  pub line : Line
  pub at : slice_get q.lines p.ticket ≡ Some line
  pub call : line.call ≡ p.call
  pub runs : slice_get q.statuses p.ticket ≡ Some Running
  pub seen : p.seen ≡ take (suc p.ticket) (calls_in q.lines)

-- all loads and stores of the pass's call are made; an aborted call has no stores
abbrev pub has_stored_pass : Base → PassView → Bool
has_stored_pass base p = (p.loads == length p.call.claims) && (is_aborted (reply_of_pass base p) || (p.stores == length (writes p.call)))

-- no lower ticket that is not gone has a claim that conflicts with one of these
abbrev pub IsFirst : List Line → List Status → ℕ → List Claim → Type 0
IsFirst lines statuses t claims =
    (u : ℕ) (l : Line) (status : Status) → u < t → slice_get lines u ≡ Some l → slice_get statuses u ≡ Some status → is_gone status ≡ false → conflict l.call.claims claims ≡ false

-- a ticket waits, and nothing before it holds it back
pub record MayStart (lines : List Line) (statuses : List Status) (t : ℕ) : Type 0 where
  pub line : Line
  pub at : slice_get lines t ≡ Some line
  pub waits : slice_get statuses t ≡ Some Waiting
  pub first : IsFirst lines statuses t line.call.claims

-- the turn's call enters next and is free: all its claims are requested, and all were granted
pub record EntersFree (turn : TurnView) (lines : List Line) (t : ℕ) : Type 0 where
  pub next : t ≡ length lines
  pub asked : length turn.call.claims ≤ turn.requested
  pub granted : turn.granted ≡ true

-- a ticket may begin to run: it is that of the open turn, or if no turn is open one that waits
abbrev pub MayRun : List Line → List Status → Option TurnView → ℕ → Type 0
MayRun lines statuses None t = MayStart lines statuses t
MayRun lines statuses (Some turn) t = EntersFree turn lines t

-- the turn's call enters and is blocked: all its claims are requested, and not all were granted
pub record EntersBlocked (turn : TurnView) : Type 0 where
  pub asked : length turn.call.claims ≤ turn.requested
  pub denied : turn.granted ≡ false

-- a session may leave: if its turn is open, the turn's call is blocked
abbrev pub MayLeave : Option TurnView → Type 0
MayLeave None = Unit {0}
MayLeave (Some turn) = EntersBlocked turn

-- the ticket whose reply is given, if there is one, is gone
abbrev pub IsGivenOut : List Status → Option ℕ → Type 0
IsGivenOut statuses given = (t : ℕ) → given ≡ Some t → slice_get statuses t ≡ Some Gone

-- the words once every call is gone: each record is what the entered calls make of it, one at a time; no claim is open;
-- and each line has its serial reply
pub record IsAtEnd (base : Base) (lines : List Line) (words : List ℕ) : Type 0 where
  pub long : length words ≡ 1 + 2 * length base.records
  pub turn : slice_index words 0 ≡ 0
  pub values : (r : ℕ) → r < length base.records → slice_index words (value_word_of r) ≡ slice_index (end base.procs (calls_in lines) base.records) r
  pub pairs : (r : ℕ) → r < length base.records → slice_index words (pair_word_of_record r) ≡ 0
  pub replied : (t : ℕ) (l : Line) → slice_get lines t ≡ Some l → l.reply ≡ answer base.procs (calls_in lines) base.records t

module _ {S : Type 0} where
  -- a request changes the turn
  abbrev pub RequestDoes : Claim → Step S → Me S View → ℕ → Me S View → Type 0
  RequestDoes c st v n w = w ≡ (on_queue (requested c n) v.0, v.1)

  -- and its caller learns that it has found the record's counter in these words
  abbrev pub RequestTells : Base → Claim → List ℕ → Me S View → ℕ → Me S View → Type 0
  RequestTells base c words v n w = AtQueue (λ q. IsCounterNow base q words c.id n) v.0

  -- opening a turn, the caller learns what the queue's seat does of the session that has joined it
  abbrev pub OpenTells : Base → Option Call → Step S → Me S View → ℕ → Me S View → Type 0
  OpenTells base call st v n w = (w ≡ (on_queue (opened call) v.0, v.1)) × AtQueue (λ q. (g : SessionView) → q.session ≡ Some g → KnowsSession base q g) v.0

  -- a load changes the pass, and its caller learns the record's value
  abbrev pub LoadTells : Base → ℕ → Step S → Me S View → ℕ → Me S View → Type 0
  LoadTells base r st v n w = (w ≡ (on_pass (loaded n) v.0, v.1)) × AtPass (λ p. IsValueNow base p r n) v.0

  -- a find changes the session
  abbrev pub FindDoes : Step S → Me S View → ℕ → Me S View → Type 0
  FindDoes st v n w = w ≡ (on_session (λ g. session_of w.0) v.0, v.1)

  -- and its caller learns what it has found in these words
  abbrev pub FindTells : Base → ℕ → List ℕ → Me S View → ℕ → Me S View → Type 0
  FindTells base r words v n w = AtSession (λ g. HasFound base g (session_of w.0) words r n) v.0

  -- a store changes the pass, and its caller learns nothing
  abbrev pub StoreTells : Step S → Me S View → ℕ → Me S View → Type 0
  StoreTells st v n w = w ≡ (on_pass stored v.0, v.1)

  -- a release changes the pass
  abbrev pub ReleaseDoes : Step S → Me S View → ℕ → Me S View → Type 0
  ReleaseDoes st v n w = w ≡ (on_pass released v.0, v.1)

  -- and its caller learns that it has found the record's counter in these words
  abbrev pub ReleaseTells : Base → ℕ → List ℕ → Me S View → ℕ → Me S View → Type 0
  ReleaseTells base r words v n w = AtPass (λ p. IsCountedNow base p words r n) v.0

  -- ending a call, the caller learns what the queue's seat does of the pass that has joined it
  abbrev pub EndTells : Base → Step S → Me S View → ℕ → Me S View → Type 0
  EndTells base st v n w = (w ≡ (on_queue (ended base) v.0, v.1)) × AtQueue (λ q. (p : PassView) → q.pass ≡ Some p → KnowsPass q p) v.0
