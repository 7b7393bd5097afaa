-- What a session knows once it has looked for the record of a call's indirect key.
use Rattle.std.specs.Prelude.{◌≡◌, ℕ, ◌<◌, length, Some, slice_get}
use Rattle.vll_proc.specs.declared.call.Call.{Call}
use Rattle.vll_check.specs.Headline.Calls.{source, with_found}
use Rattle.vll_check.specs.Calls.{bare}
use Rattle.vll_counters.specs.declared.views.SessionView.{SessionView}
use Rattle.vll_counters.specs.Told.{WasThere}
use Rattle.vll_queue.specs.Headline.Found.{FoundThere}
use Rattle.vll_queue.specs.Sessions.{SawOthers}
use Rattle.vll_queue.specs.Shown.{Named, library_of}

-- the call that is to enter is the one with a value found, which its source held; the session has seen only calls of
-- other clients since, and was given no reply
pub record HasLooked (e : Named) (old new : SessionView) (call entering : Call) : Type 0 where
  pub value : ℕ
  pub is : entering ≡ with_found (library_of e) call value
  pub bare_is : bare (with_found (library_of e) call value) ≡ bare call
  pub others : SawOthers old new
  pub same : new.given ≡ old.given
  pub found : (r : ℕ) → source (library_of e) call ≡ Some r
      → WasThere e.base new.seen new.given (length new.seen) r value × ((k t : ℕ) → slice_get new.given k ≡ Some t → t < length new.seen)

-- what a session knows of a call that it is about to enter: if the call has a source, it has found a value that was in it
abbrev pub IsLookedUp : Named → SessionView → Call → Type 0
IsLookedUp e g call = (r : ℕ) → source (library_of e) call ≡ Some r → FoundThere e.base g.seen (length g.seen) call r
