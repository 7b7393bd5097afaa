-- What a session hears, and the order by news of calls made from entry to reply.
use Rattle.std.specs.Prelude.{◌≡◌, ℕ, List}
use Rattle.vll_proc.specs.declared.call.Call.{Call}
use Rattle.vll_proc.specs.declared.call.Reply.{Reply}
use Rattle.vll_proc.specs.Headline.Serial.{Made}
use Rattle.vll_check.specs.Headline.Calls.{with_found}
use Rattle.vll_counters.specs.declared.views.SessionView.{SessionView}
use Rattle.vll_counters.specs.Steps.{told}
use Rattle.vll_counters.specs.Headline.Views.{Begins}
use Rattle.vll_queue.specs.Calling.{IsCalled}
use Rattle.vll_queue.specs.Sessions.{SawOthers}
use Rattle.vll_queue.specs.Shown.{Named, library_of}
use Rattle.vll_queue.specs.Headline.News.{IsHandedOn, ComesBefore}

-- a session has heard news of these calls: what it has seen begins with them, and after what it had seen itself it has
-- now seen only calls of other clients; nothing else of it has changed
pub record Hears (old new : SessionView) (calls : List Made) : Type 0 where
  pub same : new ≡ told new.seen old
  pub others : SawOthers old new
  pub heard : Begins calls new.seen

-- as `NewsOrdersEntries`, for calls made from entry to reply
abbrev pub NewsOrdersCalls : Type 0
NewsOrdersCalls =
    (e : Named) (one after_one other after_other : SessionView) (a b : Call) (t u : ℕ) (reply answered : Reply) (chain : List (List Made)) (calls : List Made)
    → (first : IsCalled e one after_one a t reply) → IsHandedOn after_one.seen chain other.seen → (second : IsCalled e other after_other b u answered) → Begins after_other.seen calls
    → ComesBefore calls (one.client, with_found (library_of e) a first.enters.value) (other.client, with_found (library_of e) b second.enters.value) t u
