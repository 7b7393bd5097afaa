-- What it means that a call begins: it enters, requests all its claims and gets a ticket under one hold of the lock, or
-- is refused.
use Rattle.std.specs.Prelude.{◌≡◌, ◌<◌, ℕ, nat_le, length, count_by, Option, Some, None, if◌then◌else◌}
use Rattle.vll_proc.specs.declared.call.Call.{Call}
use Rattle.vll_check.specs.Headline.Calls.{source, with_found}
use Rattle.vll_check.specs.Calls.{bare}
use Rattle.vll_sca.specs.Headline.Status.{is_waiting}
use Rattle.vll_core.specs.Queue.{Queued, statuses}
use Rattle.vll_counters.specs.declared.views.SessionView.{SessionView}
use Rattle.vll_counters.specs.Shown.{PassShown}
use Rattle.vll_counters.specs.Told.{WasThere}
use Rattle.vll_queue.specs.declared.begun.BeginRefusal.{BeginRefusal}
use Rattle.vll_queue.specs.declared.begun.BeginRefusal.TheVariants.{Spent, Busy}
use Rattle.vll_queue.specs.declared.begun.Begun.{Begun}
use Rattle.vll_queue.specs.declared.begun.Begun.TheVariants.{Free, Blocked, Refused}
use Rattle.vll_queue.specs.Pass.{IsFresh}
use Rattle.vll_queue.specs.Headline.Sessions.{SawOwn}
use Rattle.vll_queue.specs.Sessions.{SawOthers}
use Rattle.vll_queue.specs.Shown.{Named, library_of}

-- a pass of the engine, for this call, which has seen what the session has seen
pub record IsPassFor (e : Named) (new : SessionView) (call : Call) (p : PassShown) : Type 0 where
  pub fresh : IsFresh e p
  pub own : p.pass.call ≡ call
  pub seen : p.pass.seen ≡ new.seen

-- why a call was refused, by what the session knows: as many calls as the limit have entered, or as many as the cap
-- wait
abbrev pub IsRefused : Named → SessionView → BeginRefusal → Type 0
IsRefused e new Spent = length new.seen ≡ e.config.limit
IsRefused e new Busy = new.waited ≡ e.config.cap

-- what the answer says of the session: after an entry its last call is this one, under its ticket; if it is
-- blocked, some call then waits; and after a refusal the session has entered none
abbrev pub Begins : Named → SessionView → SessionView → Call → Begun → Type 0
Begins e old new call (Free pass) = SawOwn old new call pass.pass.ticket × IsPassFor e new call pass
Begins e old new call (Blocked ticket) = SawOwn old new call ticket × (0 < new.waited)
Begins e old new call (Refused why) = SawOthers old new × IsRefused e new why

-- after an entry: the value was in the record loaded for the call. If the entered calls run one at a time, it is the
-- record's value before the call's ticket or an earlier one, and after each call that claims the record and whose reply
-- the session was given
abbrev pub WasFound : Named → SessionView → ℕ → ℕ → Begun → Type 0
WasFound e new r v (Free pass) = WasThere e.base new.seen new.given pass.pass.ticket r v
WasFound e new r v (Blocked ticket) = WasThere e.base new.seen new.given ticket r v
WasFound e new r v (Refused why) = Unit {0}

-- what the answer says of the session and of a call that first finds the record of its indirect key, if it has one:
-- what begins is the call with the value found, otherwise unchanged
pub record FindsAndBegins (e : Named) (old new : SessionView) (call : Call) (begun : Begun) : Type 0 where
  pub value : ℕ
  pub begins : Begins e old new (with_found (library_of e) call value) begun
  pub same : bare (with_found (library_of e) call value) ≡ bare call
  pub found : (r : ℕ) → source (library_of e) call ≡ Some r → WasFound e new r value begun

module _ {H : Type 0} where
  -- why no call may begin: as many calls as the limit have entered, or else as many as the cap wait
  abbrev pub refusal : Queued H → Option BeginRefusal
  refusal q = if nat_le q.limit (length q.entries) then Some Spent else (if nat_le q.cap (count_by is_waiting (statuses q)) then Some Busy else None)
