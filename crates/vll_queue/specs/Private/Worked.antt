-- A pass after all its loads, all its stores, and all its releases.
use Rattle.std.specs.Prelude.{ℕ, List, length}
use Rattle.vll_core.specs.State.{writes}
use Rattle.vll_counters.specs.declared.views.PassView.{PassView}

-- all loads are made, and these values were found
abbrev pub all_loaded : List ℕ → PassView → PassView
all_loaded values p = record p { loads = length p.call.claims; loaded = values }

-- each Write claim's record is stored
abbrev pub all_stored : PassView → PassView
all_stored p = record p { stores = length (writes p.call) }

-- each claim is released
abbrev pub all_released : PassView → PassView
all_released p = record p { releases = length p.call.claims }
