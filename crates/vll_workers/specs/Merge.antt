-- What the journal contains of the scripts that were passed to a run.
use Rattle.std.specs.Prelude.{◌≡◌, ◌++◌, List, [], All, Some, length, slice_get}
use Rattle.vll_proc.specs.declared.call.Call.{Call}
use Rattle.vll_check.specs.Headline.Calls.{AreFound}
use Rattle.vll_check.specs.Headline.Catalog.{Catalog}
use Rattle.vll_counters.specs.declared.views.SessionView.{SessionView}
use Rattle.vll_counters.specs.Headline.Views.{calls_by, calls_in}
use Rattle.vll_queue.specs.Closed.{IsSerial}
use Rattle.vll_queue.specs.Sessions.{HasItsCalls}
use Rattle.vll_queue.specs.Shown.{Named}
use Rattle.vll_queue.specs.declared.closed.Closed.{Closed}
use Rattle.vll_tokens.specs.Shown.{TokenShown}
use Rattle.vll_tokens.specs.Tokens.{AreFit}

-- a token with its client's script, of which no call has entered, and with its client's session, which has seen none
pub record IsAtStart (scripts : List (List Call)) (t : TokenShown) : Type 0 where
  pub script : slice_get scripts t.client ≡ Some t.script
  pub none : t.next ≡ 0
  pub whose : t.session.session.client ≡ t.client
  pub unseen : calls_by t.client t.session.session.seen ≡ []

-- the tokens with which these scripts are run: one for each client of the engine, at its start
pub record AreForScripts (e : Named) (scripts : List (List Call)) (tokens : List TokenShown) : Type 0 where
  pub clients : e.clients ≡ length scripts
  pub count : length tokens ≡ length scripts
  pub fit : AreFit e tokens
  pub start : All (IsAtStart scripts) tokens

-- what the engine leaves when it is closed with the sessions of these tokens
pub record IsClosedWith (e : Named) (tokens : List TokenShown) (closed : Closed) : Type 0 where
  pub serial : IsSerial e closed
  pub seen : All (λ (t : TokenShown). HasItsCalls (calls_in closed.journal.items) t.session.session) tokens

-- after the calls of its client that a session had seen, it has seen these calls of a script, each with a value found
-- if it has an indirect key
pub record HasFound (library : Catalog) (old new : SessionView) (calls : List Call) : Type 0 where
  pub entered : List Call
  pub seen : calls_by old.client new.seen ≡ calls_by old.client old.seen ++ entered
  pub found : AreFound library calls entered
