-- A waiting call, as a test of its status.
use Rattle.std.specs.Prelude.{Bool, true, false}
use Rattle.vll_sca.specs.declared.status.Status.{Status}
use Rattle.vll_sca.specs.declared.status.Status.TheVariants.{Running, Waiting, Gone}

-- entered, and not yet begun
abbrev pub is_waiting : Status → Bool
is_waiting Running = false
is_waiting Waiting = true
is_waiting Gone = false
