use Rattle.std.specs.List.{All}
use Rattle.vll_check.specs.Calls.{Fits}
use Rattle.vll_simulation.proofs.seeds.copied.Given as goal

abbrev pub invariant-loop-script : goal.invariant-loop-script
invariant-loop-script l = All (λ s. All (Fits l.library) s.items) l.copies.items
