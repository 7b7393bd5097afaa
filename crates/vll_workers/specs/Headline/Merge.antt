-- Each client's calls are its script.
use Rattle.std.specs.Prelude.{ℕ, List, [], slice_get, unwrap_or}
use Rattle.vll_proc.specs.declared.call.Call.{Call}
use Rattle.vll_proc.specs.Headline.Serial.{Made}
use Rattle.vll_check.specs.Headline.Calls.{AreFound}
use Rattle.vll_check.specs.Headline.Catalog.{Catalog}
use Rattle.vll_counters.specs.Headline.Views.{calls_by}

-- each client's calls are its script, each with a value found if it has an indirect key, and no other client occurs
abbrev pub IsMerge : Catalog → List Made → List (List Call) → Type 0
IsMerge library calls scripts = (c : ℕ) → AreFound library (unwrap_or (slice_get scripts c) []) (calls_by c calls)
