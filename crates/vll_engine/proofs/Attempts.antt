-- A call from its entry to its reply, and attempts at it.
use Rattle.std.proofs.Common.{◌≡◌, ℕ, [], ◌∷◌, ◌++◌, Option, Some, None, Result, Ok, Err, ap, ◌∙◌, subst}
use Rattle.vll_proc.specs.declared.call.Call.{Call}
use Rattle.vll_proc.specs.declared.call.Reply.{Reply}
use Rattle.vll_proc.specs.Headline.Serial.{answer}
use Rattle.vll_check.specs.Headline.Calls.{source}
use Rattle.vll_check.specs.Calls.{Fits}
use Rattle.vll_check.specs.Catalog.{IsCatalog}
use Rattle.vll_counters.specs.declared.views.SessionView.{SessionView}
use Rattle.vll_engine.specs.declared.calling.EngineSpent.{EngineSpent}
use Rattle.vll_queue.specs.Calling.{IsCalled}
use Rattle.vll_engine.specs.Private.Attempt.{IsAttempted, IsMade, IsTried}
use Rattle.vll_queue.specs.Looked.{HasLooked}
use Rattle.vll_queue.specs.Pass.{DoneShown}
use Rattle.vll_queue.specs.Headline.Sessions.{SawOwn}
use Rattle.vll_queue.specs.Sessions.{SawOthers}
use Rattle.vll_queue.specs.Shown.{Named, library_of}
use Rattle.vll_queue.proofs.Looking.{found_own, looked_nowhere, saw_more, saw_more_own}

-- a ready call that entered has its reply
pub is_made : (e : Named) (old entered new : SessionView) (ready : Call) (ticket : ℕ) (reply : Reply) → SawOwn old entered ready ticket → entered.given ≡ old.given → SawOthers entered new → new.given ≡ entered.given ++ ticket ∷ []
    → answer e.base.procs new.seen e.base.records ticket ≡ Some reply → IsMade e old new ready ticket reply
is_made e old entered new ready ticket reply enters same others given replied = record {
  entered = entered;
  enters = enters;
  same = same;
  others = others;
  given = given ∙ ap (λ l. l ++ ticket ∷ []) same;
  replied = replied;
}

-- as it was finished: what was released is this ticket's, with this reply
pub is_finished : (e : Named) (old entered new : SessionView) (ready : Call) (ticket : ℕ) (reply : Reply) (released : DoneShown) → SawOwn old entered ready ticket → entered.given ≡ old.given → SawOthers entered new
    → new.given ≡ entered.given ++ released.pass.ticket ∷ [] → answer e.base.procs new.seen e.base.records released.pass.ticket ≡ Some released.reply → released.pass.ticket ≡ ticket → released.reply ≡ reply → IsMade e old new ready ticket reply
is_finished e old entered new ready ticket reply released enters same others given replied of with =
    is_made e old entered new ready ticket reply enters same others
    (given ∙ ap (λ (t : ℕ). entered.given ++ t ∷ []) of)
    (subst (λ (t : ℕ). answer e.base.procs new.seen e.base.records t ≡ Some reply) of (replied ∙ ap Some with))

-- the attempt at the ready call is one at the call that the session has looked for
pub attempted : (e : Named) (old mid new : SessionView) (call ready : Call) (result : Result (Option ℕ) EngineSpent) (reply : Reply) → HasLooked e old mid call ready → IsTried e mid new ready result reply → IsAttempted e old new call result reply
attempted e old mid new call ready (Ok (Some ticket)) reply looked h = record {
  entered = h.entered;
  enters = record {
    value = looked.value;
    enters = subst (λ (c : Call). SawOwn old h.entered c ticket) looked.is (saw_more_own old mid h.entered ready ticket looked.others h.enters);
    same = looked.bare_is;
    found = λ r is. let there = looked.found r is in found_own e mid h.entered ready ticket r looked.value h.enters h.same there.0 there.1;
  };
  same = h.same ∙ looked.same;
  others = h.others;
  given = h.given ∙ ap (λ l. l ++ ticket ∷ []) looked.same;
  replied = h.replied;
}
attempted e old mid new call ready (Ok None) reply looked h = (saw_more old mid new looked.others h.0, h.1 ∙ looked.same)
attempted e old mid new call ready (Err spent) reply looked h = record { others = saw_more old mid new looked.others h.others; given = h.given ∙ looked.same; spent = h.spent }

-- a call without a source is tried as it is
pub attempted_as_it_is : (e : Named) (old new : SessionView) (call : Call) (result : Result (Option ℕ) EngineSpent) (reply : Reply) → IsCatalog (library_of e) → Fits (library_of e) call → source (library_of e) call ≡ None
    → IsTried e old new call result reply → IsAttempted e old new call result reply
attempted_as_it_is e old new call result reply catalog fits none h = attempted e old old new call call result reply (looked_nowhere e old call catalog fits none) h

-- a call that is made after attempts that did not enter it
pub called_more : (e : Named) (old mid new : SessionView) (call : Call) (ticket : ℕ) (reply : Reply) → SawOthers old mid → mid.given ≡ old.given → IsCalled e mid new call ticket reply → IsCalled e old new call ticket reply
called_more e old mid new call ticket reply first given h = record {
  entered = h.entered;
  enters = record {
    value = h.enters.value;
    enters = saw_more_own old mid h.entered _ ticket first h.enters.enters;
    same = h.enters.same;
    found = h.enters.found;
  };
  same = h.same ∙ given;
  others = h.others;
  given = h.given ∙ ap (λ l. l ++ ticket ∷ []) given;
  replied = h.replied;
}
