-- A session enters a call after all that it had seen.
use Rattle.std.specs.Prelude.{◌≡◌, ℕ, length, List, [], ◌∷◌, ◌++◌}
use Rattle.vll_proc.specs.declared.call.Call.{Call}
use Rattle.vll_proc.specs.Headline.Serial.{Made}
use Rattle.vll_counters.specs.Headline.Views.{calls_by}
use Rattle.vll_counters.specs.declared.views.SessionView.{SessionView}

-- after what the session had seen, it has now seen only calls of other clients, and last this call of its own, whose
-- ticket is its place
pub record SawOwn (old new : SessionView) (call : Call) (ticket : ℕ) : Type 0 where
  pub client : new.client ≡ old.client
  pub others : List Made
  pub not_own : calls_by old.client others ≡ []
  pub seen : new.seen ≡ (old.seen ++ others) ++ (old.client, call) ∷ []
  pub place : ticket ≡ length (old.seen ++ others)
