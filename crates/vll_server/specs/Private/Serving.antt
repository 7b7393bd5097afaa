-- The sessions of the tokens that come back, and what is reported of calls that are left.
use Rattle.std.specs.Prelude.{◌<◌, ◌+◌, List, map}
use Rattle.vll_counters.specs.Shown.{SessionShown}
use Rattle.vll_tokens.specs.Shown.{TokenShown}
use Rattle.vll_server.specs.declared.fault.ServeFault.{ServeFault}
use Rattle.vll_server.specs.declared.fault.ServeFault.TheVariants as fault

-- the tokens' sessions, in order
abbrev pub sessions_in : List TokenShown → List SessionShown
sessions_in tokens = map (λ (t : TokenShown). t.session) tokens

-- the fault reports that calls were left in the engine, and how many
abbrev pub AreLeft : ServeFault → Type 0
AreLeft (fault.Unfinished running waiting) = 0 < running + waiting
AreLeft why = ⊥
