-- News: what one session has seen reaches another one, whose later calls are ordered after it.
use Rattle.std.specs.Prelude.{◌≡◌, ℕ, ◌<◌, List, [], ◌∷◌, Some, slice_get}
use Rattle.vll_proc.specs.declared.call.Call.{Call}
use Rattle.vll_proc.specs.Headline.Serial.{Made}
use Rattle.vll_counters.specs.declared.views.SessionView.{SessionView}
use Rattle.vll_counters.specs.Headline.Views.{Begins}
use Rattle.vll_queue.specs.Headline.Sessions.{SawOwn}

-- the first calls reach the last by way of these lists: each list begins with the one before it, as what a session has
-- seen begins with what it had seen and with what it has heard, and as news is what its sender had seen
abbrev pub IsHandedOn : List Made → List (List Made) → List Made → Type 0
IsHandedOn first [] last = Begins first last
IsHandedOn first (next ∷ more) last = Begins first next × IsHandedOn next more last

-- in these calls, the first call is at ticket t and the second at ticket u, and t is lower
pub record ComesBefore (calls : List Made) (first second : Made) (t u : ℕ) : Type 0 where
  pub order : t < u
  pub first_at : slice_get calls t ≡ Some first
  pub second_at : slice_get calls u ≡ Some second

-- a session has entered a call, what it has seen by then reaches another session by any chain of news, and that one
-- then enters a call: among all calls that ever enter, the first comes before the second
abbrev pub NewsOrdersEntries : Type 0
NewsOrdersEntries =
    (one after_one other after_other : SessionView) (a b : Call) (t u : ℕ) (chain : List (List Made)) (calls : List Made)
    → SawOwn one after_one a t → IsHandedOn after_one.seen chain other.seen → SawOwn other after_other b u → Begins after_other.seen calls
    → ComesBefore calls (one.client, a) (other.client, b) t u
