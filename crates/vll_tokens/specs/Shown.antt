-- What contracts see of a token.
use Rattle.std.specs.Prelude.{ℕ, List}
use Rattle.vll_proc.specs.declared.call.Call.{Call}
use Rattle.vll_counters.specs.Shown.{SessionShown}

-- a client, its script, how many of the script's calls have entered, and its session
pub record TokenShown : Type 0 where
  pub client : ℕ
  pub script : List Call
  pub next : ℕ
  pub session : SessionShown

-- a client's token of which `next` calls have entered
abbrev pub token : ℕ → List Call → ℕ → SessionShown → TokenShown
token client script next session = record { client = client; script = script; next = next; session = session }
