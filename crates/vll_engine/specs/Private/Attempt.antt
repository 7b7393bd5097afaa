-- The result of one attempt to make a call.
use Rattle.std.specs.Prelude.{◌≡◌, ℕ, [], ◌∷◌, ◌++◌, Option, Some, None, Result, Ok, Err}
use Rattle.vll_proc.specs.declared.call.Call.{Call}
use Rattle.vll_proc.specs.declared.call.Reply.{Reply}
use Rattle.vll_proc.specs.Headline.Serial.{answer}
use Rattle.vll_counters.specs.declared.views.SessionView.{SessionView}
use Rattle.vll_engine.specs.declared.calling.EngineSpent.{EngineSpent}
use Rattle.vll_queue.specs.Calling.{IsCalled, IsTurnedAway}
use Rattle.vll_queue.specs.Headline.Sessions.{SawOwn}
use Rattle.vll_queue.specs.Sessions.{SawOthers}
use Rattle.vll_queue.specs.Shown.{Named}

-- the call was made, and this is its reply; or it has not entered, and the session has seen only calls of other clients
-- since; or it was turned away
abbrev pub IsAttempted : Named → SessionView → SessionView → Call → Result (Option ℕ) EngineSpent → Reply → Type 0
IsAttempted e old new call (Ok (Some ticket)) reply = IsCalled e old new call ticket reply
IsAttempted e old new call (Ok None) reply = SawOthers old new × (new.given ≡ old.given)
IsAttempted e old new call (Err spent) reply = IsTurnedAway e old new

-- a ready call was made: it has entered as it is, under this ticket; since then the session has seen only calls of other
-- clients; and it was given the reply
pub record IsMade (e : Named) (old new : SessionView) (ready : Call) (ticket : ℕ) (reply : Reply) : Type 0 where
  pub entered : SessionView
  pub enters : SawOwn old entered ready ticket
  pub same : entered.given ≡ old.given
  pub others : SawOthers entered new
  pub given : new.given ≡ old.given ++ ticket ∷ []
  pub replied : answer e.base.procs new.seen e.base.records ticket ≡ Some reply

-- the result of an attempt to make a ready call, and the reply if it was made
abbrev pub IsTried : Named → SessionView → SessionView → Call → Result (Option ℕ) EngineSpent → Reply → Type 0
IsTried e old new ready (Ok (Some ticket)) reply = IsMade e old new ready ticket reply
IsTried e old new ready (Ok None) reply = SawOthers old new × (new.given ≡ old.given)
IsTried e old new ready (Err spent) reply = IsTurnedAway e old new
