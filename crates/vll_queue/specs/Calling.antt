-- What it means that a session's client makes a call, from entry to reply.
use Rattle.std.specs.Prelude.{◌≡◌, ℕ, [], ◌∷◌, ◌++◌, length, List, Ok, Some}
use Rattle.vll_proc.specs.declared.call.Call.{Call}
use Rattle.vll_proc.specs.declared.call.Reply.{Reply}
use Rattle.vll_proc.specs.Headline.Serial.{answer}
use Rattle.vll_check.specs.Headline.Calls.{source, with_found}
use Rattle.vll_check.specs.Calls.{bare, call_made}
use Rattle.vll_counters.specs.declared.views.SessionView.{SessionView}
use Rattle.vll_counters.specs.Told.{WasThere}
use Rattle.vll_queue.specs.Headline.Sessions.{SawOwn}
use Rattle.vll_queue.specs.Sessions.{SawOthers}
use Rattle.vll_queue.specs.Shown.{Named, library_of}

-- the call has entered under this ticket with what it found, otherwise unchanged, as `FindsAndBegins` says of a call
-- that begins; whether it had to wait is not said
pub record FindsAndEnters (e : Named) (old new : SessionView) (call : Call) (ticket : ℕ) : Type 0 where
  pub value : ℕ
  pub enters : SawOwn old new (with_found (library_of e) call value) ticket
  pub same : bare (with_found (library_of e) call value) ≡ bare call
  pub found : (r : ℕ) → source (library_of e) call ≡ Some r → WasThere e.base new.seen new.given ticket r value

-- the call has entered under this ticket with what it found; since then the session has seen only calls of other
-- clients; and it was given the reply, which is the ticket's in the serial run of the calls it has seen
pub record IsCalled (e : Named) (old new : SessionView) (call : Call) (ticket : ℕ) (reply : Reply) : Type 0 where
  pub entered : SessionView
  pub enters : FindsAndEnters e old entered call ticket
  pub same : entered.given ≡ old.given
  pub others : SawOthers entered new
  pub given : new.given ≡ old.given ++ ticket ∷ []
  pub replied : answer e.base.procs new.seen e.base.records ticket ≡ Some reply

-- the call made is the one that the library makes of this name and these arguments
pub record IsCalledByName (e : Named) (old new : SessionView) (name args : List ℕ) (ticket : ℕ) (reply : Reply) : Type 0 where
  pub call : Call
  pub is : call_made (library_of e) name args ≡ Ok call
  pub called : IsCalled e old new call ticket reply

-- the call was turned away: the session has seen only calls of other clients since, and as many calls as the limit have
-- entered
pub record IsTurnedAway (e : Named) (old new : SessionView) : Type 0 where
  pub others : SawOthers old new
  pub given : new.given ≡ old.given
  pub spent : length new.seen ≡ e.config.limit
