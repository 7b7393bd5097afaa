use Rattle.std.proofs.Common.{All}
use Rattle.vll_check.specs.Calls.{Fits}
use Rattle.vll_core_tests.proofs.crowd.scripts.Given as goal

abbrev pub invariant-loop-count : goal.invariant-loop-count
invariant-loop-count l = All (λ script. All (Fits l.library) script.items) l.scripts.items
