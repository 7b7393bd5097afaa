-- What the functions of the words do to the view of the queue's seat, one after another.
use Rattle.std.specs.Prelude.{ℕ, suc, List, [], ◌∷◌, Option, Some, None}
use Rattle.vll_record.specs.declared.claim.Claim.{Claim}
use Rattle.vll_proc.specs.declared.call.Call.{Call}
use Rattle.vll_core.specs.Headline.State.{Base}
use Rattle.vll_counters.specs.declared.views.PassView.{PassView}
use Rattle.vll_counters.specs.declared.views.SessionView.{SessionView}
use Rattle.vll_counters.specs.declared.views.QueueView.{QueueView}
use Rattle.vll_counters.specs.Shown.{QueueShown, queue_view, after}
use Rattle.vll_counters.specs.Steps.{turn_of, requested, pass_given, turn_ended, finished}

-- a call of a function of the words with the queue's seat: `make_session`, `join_session`, `request` that is answered
-- this word, `give_pass`, `give_session` and `join_pass`
pub data QueueCall : Type 0 where
  makes_session : QueueCall
  joins_session : SessionView → Option Call → QueueCall
  requests : Claim → ℕ → QueueCall
  gives_pass : ℕ → QueueCall
  gives_session : QueueCall
  joins_pass : PassView → QueueCall

-- the view of the queue's seat after it: the function's clause `queue` cites this
abbrev pub view_after : Base → QueueCall → QueueView → QueueView
view_after base makes_session q = record q { clients = suc q.clients }
view_after base (joins_session g call) q = record q { session = Some g; turn = turn_of call (Some g) }
view_after base (requests c old) q = requested c old q
view_after base (gives_pass t) q = pass_given t q.turn q
view_after base gives_session q = record (turn_ended q.turn q) { session = None }
view_after base (joins_pass p) q = finished base p q

-- what contracts see of the queue's seat after it, with the same past
abbrev pub after_call : Base → QueueCall → QueueShown → QueueShown
after_call base call s = after s (view_after base call (queue_view s))

-- the view after several of them
abbrev pub view_after_all : Base → List QueueCall → QueueView → QueueView
view_after_all base [] q = q
view_after_all base (call ∷ calls) q = view_after_all base calls (view_after base call q)
