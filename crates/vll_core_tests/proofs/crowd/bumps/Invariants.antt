use Rattle.std.proofs.Common.{All}
use Rattle.vll_check.specs.Calls.{Fits}
use Rattle.vll_core_tests.proofs.crowd.bumps.Given as goal

abbrev pub invariant-loop : goal.invariant-loop
invariant-loop l = All (Fits l.library) l.script.items
