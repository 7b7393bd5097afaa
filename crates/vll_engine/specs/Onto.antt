-- What it means that a call begins or is found, if its pass is appended to a list.
use Rattle.std.specs.Prelude.{◌≡◌, ◌++◌, ◌∷◌, [], List}
use Rattle.vll_proc.specs.declared.call.Call.{Call}
use Rattle.vll_counters.specs.declared.views.PassView.{PassView}
use Rattle.vll_counters.specs.declared.views.SessionView.{SessionView}
use Rattle.vll_counters.specs.Shown.{PassShown}
use Rattle.vll_queue.specs.declared.begun.Begun.{Begun}
use Rattle.vll_queue.specs.declared.begun.Begun.TheVariants.{Free, Blocked, Refused}
use Rattle.vll_engine.specs.declared.passes.BegunOnto.{BegunOnto}
use Rattle.vll_engine.specs.declared.passes.BegunOnto.TheVariants as onto
use Rattle.vll_queue.specs.Begin.{FindsAndBegins}
use Rattle.vll_queue.specs.Pass.{IsFresh, StaysOf}
use Rattle.vll_queue.specs.Shown.{Named}

-- the same answer, with the pass appended to the list instead of in the answer; without a pass the list is unchanged
abbrev pub IsOnto : Begun → BegunOnto → List PassShown → List PassShown → Type 0
IsOnto (Free pass) answer before after = (answer ≡ onto.Free) × (after ≡ before ++ pass ∷ [])
IsOnto (Blocked ticket) answer before after = (answer ≡ onto.Blocked ticket) × (after ≡ before)
IsOnto (Refused why) answer before after = (answer ≡ onto.Refused why) × (after ≡ before)

-- as `FindsAndBegins`, with the pass appended to the list
pub record FindsAndBeginsOnto (e : Named) (old new : SessionView) (call : Call) (answer : BegunOnto) (before after : List PassShown) : Type 0 where
  pub begun : Begun
  pub begins : FindsAndBegins e old new call begun
  pub onto : IsOnto begun answer before after

-- one pass is appended, of a call of this engine that has made no step
pub record HasOneMore (e : Named) (before after : List PassShown) : Type 0 where
  pub pass : PassShown
  pub fresh : IsFresh e pass
  pub more : after ≡ before ++ pass ∷ []

-- the pass was the last of the list and was taken off, and is still for the same call
pub record IsOfLast (before after : List PassShown) (p : PassView) : Type 0 where
  pub last : PassShown
  pub off : before ≡ after ++ last ∷ []
  pub same : StaysOf last.pass p
