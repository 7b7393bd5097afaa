-- The other statuses of an entered call, as tests.
use Rattle.std.specs.Prelude.{Bool, true, false}
use Rattle.vll_sca.specs.declared.status.Status.{Status}
use Rattle.vll_sca.specs.declared.status.Status.TheVariants.{Running, Waiting, Gone}

-- begun, and not yet finished
abbrev pub is_running : Status → Bool
is_running Running = true
is_running Waiting = false
is_running Gone = false

-- finished
abbrev pub is_gone : Status → Bool
is_gone Running = false
is_gone Waiting = false
is_gone Gone = true
