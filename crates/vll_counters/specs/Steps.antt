-- What each step does to the view of the seat that makes it.
use Rattle.std.specs.Prelude.{ℕ, suc, ◌+◌, ◌&&◌, true, List, [], ◌∷◌, ◌++◌, take, count_by, Option, Some, None, slice_get, slice_set, option_map, if◌then◌else◌}
use Rattle.vll_record.specs.declared.claim.Claim.{Claim}
use Rattle.vll_record.specs.Counter.{is_granted}
use Rattle.vll_proc.specs.declared.call.Call.{Call}
use Rattle.vll_proc.specs.declared.call.Reply.{Reply}
use Rattle.vll_proc.specs.Headline.Serial.{Made, apply, before}
use Rattle.vll_sca.specs.declared.status.Status.{Status}
use Rattle.vll_sca.specs.declared.status.Status.TheVariants.{Running, Waiting, Gone}
use Rattle.vll_sca.specs.Headline.Status.{is_waiting}
use Rattle.vll_core.specs.declared.line.Line.{Line}
use Rattle.vll_core.specs.Headline.State.{Base}
use Rattle.vll_counters.specs.declared.views.TurnView.{TurnView}
use Rattle.vll_counters.specs.declared.views.PassView.{PassView}
use Rattle.vll_counters.specs.declared.views.SessionView.{SessionView}
use Rattle.vll_counters.specs.declared.views.QueueView.{QueueView}
use Rattle.vll_counters.specs.declared.views.View.{View}
use Rattle.vll_counters.specs.declared.views.View.TheVariants.{Queue, Pass, Session, Spent}
use Rattle.vll_counters.specs.Headline.Views.{calls_in}

-- the queue's seat at the opening
abbrev pub first_queue : ℕ → QueueView
first_queue clients = record { lines = []; statuses = []; turn = None; pass = None; session = None; clients = clients }

-- the view of the queue's seat before there is a client
abbrev pub first_view : View
first_view = Queue (first_queue 0)

-- a change of the view of the queue's seat
abbrev pub on_queue : (QueueView → QueueView) → View → View
on_queue f (Queue q) = Queue (f q)
on_queue f v = v

-- a change of the view of a pass's seat
abbrev pub on_pass : (PassView → PassView) → View → View
on_pass f (Pass p) = Pass (f p)
on_pass f v = v

-- a change of the view of a session's seat
abbrev pub on_session : (SessionView → SessionView) → View → View
on_session f (Session g) = Session (f g)
on_session f v = v

-- ---- sessions are made at the opening

-- a client's session that has seen nothing
abbrev pub new_session : ℕ → SessionView
new_session client = record { client = client; seen = []; given = []; waited = 0 }

-- there is one more client
abbrev pub more_clients : View → View
more_clients v = on_queue (λ q. record q { clients = suc q.clients }) v

-- the view of the session that is made for this client
abbrev pub session_made : View → View
session_made (Queue q) = Session (new_session q.clients)
session_made v = Spent

-- ---- a pass or a session joins the queue's seat

-- a pass or a session that joins is in the view of the queue's seat
abbrev pub taken_in : View → QueueView → QueueView
taken_in (Pass p) q = record q { pass = Some p }
taken_in (Session g) q = record q { session = Some g }
taken_in v q = q

-- the view of the queue's seat that another seat has joined
abbrev pub joined : View → View → View
joined v w = on_queue (taken_in w) v

-- a seat that has joined another one no longer knows anything
abbrev pub spent : View
spent = Spent

-- ---- a turn: it opens, requests its claims, and ends as its call enters

-- the turn of a call that the session at the queue brings
abbrev pub turn_of : Option Call → Option SessionView → Option TurnView
turn_of (Some call) (Some g) = Some (record { client = g.client; call = call; requested = 0; granted = true })
turn_of call g = None

-- a turn is open for the call that the session at the queue brings, if it brings one
abbrev pub opened : Option Call → QueueView → QueueView
opened call q = record q { turn = turn_of call q.session }

-- the turn after a request that found this pair word
abbrev pub asked : Claim → ℕ → TurnView → TurnView
asked c old turn = record turn { requested = turn.requested + 1; granted = turn.granted && is_granted c.mode old }

-- the open turn has requested this claim, and found this pair word
abbrev pub requested : Claim → ℕ → QueueView → QueueView
requested c old q = record q { turn = option_map (asked c old) q.turn }

-- a session that has seen these calls
abbrev pub told : List Made → SessionView → SessionView
told calls g = record g { seen = calls }

-- the line of the turn's call, without a reply
abbrev pub new_line : TurnView → Line
new_line turn = record { client = turn.client; call = turn.call; reply = None }

-- a call runs at once if all its requests were granted
abbrev pub new_status : TurnView → Status
new_status turn = if turn.granted then Running else Waiting

-- the turn's call enters, and its session sees it
abbrev pub admitted : TurnView → QueueView → QueueView
admitted turn q =
    let lines = q.lines ++ new_line turn ∷ [] in
    record q { lines = lines; statuses = q.statuses ++ new_status turn ∷ []; turn = None; session = option_map (told (calls_in lines)) q.session }

-- ---- a pass is given: to the call whose turn is open, or to one that waits

-- the pass of a ticket is given: the open turn's call enters, or if no turn is open the waiting call of the ticket runs
abbrev pub pass_given : ℕ → Option TurnView → QueueView → QueueView
pass_given t None q = record q { statuses = slice_set q.statuses t Running }
pass_given t (Some turn) q = admitted turn q

-- the pass of a call that has made no step
abbrev pub new_pass : ℕ → Call → List Line → PassView
new_pass t call lines = record { ticket = t; call = call; seen = take (suc t) (calls_in lines); loads = 0; stores = 0; releases = 0; loaded = [] }

-- the view of the pass of a ticket that has made no step
abbrev pub pass_at : ℕ → List Line → View
pass_at t lines = elim (slice_get lines t) [ None ↦ Spent | Some l ↦ Pass (new_pass t l.call lines) ]

-- the view of the queue's seat when a pass is given
abbrev pub pass_kept : ℕ → View → View
pass_kept t v = on_queue (λ q. pass_given t q.turn q) v

-- the view of the pass that is given
abbrev pub pass_made : ℕ → View → View
pass_made t (Queue q) = pass_at t (pass_given t q.turn q).lines
pass_made t v = Spent

-- ---- the session at the queue leaves; if its turn is open, its call enters

-- the call of the open turn enters, if a turn is open
abbrev pub turn_ended : Option TurnView → QueueView → QueueView
turn_ended None q = q
turn_ended (Some turn) q = admitted turn q

-- the session has seen all calls, was given one more reply or none, and knows how many wait
abbrev pub leaving : Option ℕ → QueueView → SessionView → SessionView
leaving None q g = record g { seen = calls_in q.lines; waited = count_by is_waiting q.statuses }
leaving (Some t) q g = record g { seen = calls_in q.lines; given = g.given ++ t ∷ []; waited = count_by is_waiting q.statuses }

-- the view of the session that leaves, if there is one
abbrev pub session_left : Option ℕ → QueueView → Option SessionView → View
session_left given q None = Spent
session_left given q (Some g) = Session (leaving given q g)

-- the view of the queue's seat when its session has left
abbrev pub session_kept : View → View
session_kept v = on_queue (λ q. record (turn_ended q.turn q) { session = None }) v

-- the view of the session that leaves the queue
abbrev pub session_given : Option ℕ → View → View
session_given given (Queue q) = session_left given (turn_ended q.turn q) q.session
session_given given v = Spent

-- ---- a pass loads, stores and releases

-- the pass has loaded this value
abbrev pub loaded : ℕ → PassView → PassView
loaded n p = record p { loads = p.loads + 1; loaded = p.loaded ++ n ∷ [] }

-- the pass has made one more store
abbrev pub stored : PassView → PassView
stored p = record p { stores = p.stores + 1 }

-- the pass has made one more release
abbrev pub released : PassView → PassView
released p = record p { releases = p.releases + 1 }

-- ---- a pass that has joined the queue's seat ends

module _ (base : Base) where
  -- the records before the pass's ticket, if the entered calls run one at a time
  abbrev pub records_before_pass : PassView → List ℕ
  records_before_pass p = before base.procs p.seen base.records p.ticket

  -- the reply of its call then
  abbrev pub reply_of_pass : PassView → Reply
  reply_of_pass p = (apply base.procs p.call (records_before_pass p)).reply

  -- a line with that reply
  abbrev pub answered : PassView → Line → Line
  answered p l = record l { reply = Some (reply_of_pass p) }

  -- the call of the pass is gone, and its line has its reply
  abbrev pub finished : PassView → QueueView → QueueView
  finished p q = record q {
    lines = elim (slice_get q.lines p.ticket) [ None ↦ q.lines | Some l ↦ slice_set q.lines p.ticket (answered p l) ];
    statuses = slice_set q.statuses p.ticket Gone;
    pass = None;
  }

  -- the view of the queue's seat when a pass has ended, if there is one
  abbrev pub finished_by : Option PassView → QueueView → QueueView
  finished_by None q = q
  finished_by (Some p) q = finished p q

  -- the view of the queue's seat when the joined pass has ended
  abbrev pub ended : QueueView → QueueView
  ended q = finished_by q.pass q
