use Rattle.std.proofs.Common.{◌<◌, length}
use Rattle.vll_check.specs.Calls.{IsReady}
use Rattle.vll_core.specs.Shown.{library_of}
use Rattle.vll_core_tests.proofs.handing.play.Given as goal

abbrev pub invariant-loop-turn : goal.invariant-loop-turn
invariant-loop-turn g l = IsReady (library_of l.core) l.call × (0 < length l.core.state.scripts)
