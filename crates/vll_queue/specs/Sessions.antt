-- What a session learns of the entered calls each time it has been at the lock.
use Rattle.std.specs.Prelude.{◌≡◌, List, [], ◌++◌}
use Rattle.vll_proc.specs.Headline.Serial.{Made}
use Rattle.vll_counters.specs.Headline.Views.{calls_by, Begins}
use Rattle.vll_counters.specs.declared.views.SessionView.{SessionView}

-- after what the session had seen, it has now seen only calls of other clients
pub record SawOthers (old new : SessionView) : Type 0 where
  pub client : new.client ≡ old.client
  pub others : List Made
  pub not_own : calls_by old.client others ≡ []
  pub seen : new.seen ≡ old.seen ++ others

-- the session has seen a beginning of these calls, with all calls of its client
pub record HasItsCalls (calls : List Made) (g : SessionView) : Type 0 where
  pub begins : Begins g.seen calls
  pub own : calls_by g.client g.seen ≡ calls_by g.client calls
