-- The engine for a scenario's scripts, and the tokens with which workers run them.
use Rattle.std.specs.Prelude.{ℕ, suc, max, List, [], ◌∷◌, length, sum_by}
use Rattle.atomic_table.specs.Seated.{TableId}
use Rattle.vll_proc.specs.declared.call.Call.{Call}
use Rattle.vll_core.specs.declared.config.Config.{Config}
use Rattle.vll_counters.specs.Steps.{new_session}
use Rattle.vll_tokens.specs.Shown.{TokenShown, token}
use Rattle.vll_scenario.specs.Headline.Setup.{Setup}

-- the configuration of the engine that serves a scenario: it takes as many calls as the scripts have, at least 1
abbrev pub config_for : Setup → Config
config_for s = record { cap = s.config.cap; limit = max 1 (sum_by length s.scripts); bits = s.config.bits }

-- a token for each client from one on, of which no call has entered, with a session that has seen nothing
abbrev pub tokens_from : TableId → ℕ → List (List Call) → List TokenShown
tokens_from table client [] = []
tokens_from table client (script ∷ scripts) = token client script 0 (record { table = table; session = new_session client; past = [] }) ∷ tokens_from table (suc client) scripts
