use Rattle.std.specs.List.{All}
use Rattle.vll_check.specs.Calls.{Fits}
use Rattle.vll_simulation.proofs.seeds.copied_script.Given as goal

abbrev pub invariant-loop-call : goal.invariant-loop-call
invariant-loop-call l = All (Fits l.library) l.copy.items
