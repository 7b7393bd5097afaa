use Rattle.std.specs.List.{All}
use Rattle.std.proofs.Common.{◌≡◌}
use Rattle.vll_simulation.proofs.closing.sessions_of.Given as goal

abbrev pub invariant-loop-caller : goal.invariant-loop-caller
invariant-loop-caller g l = All (λ s. s.table ≡ g.N.Name.engine.table) l.sessions.items

abbrev pub decreases-loop-caller : goal.decreases-loop-caller
decreases-loop-caller g l = goal.left-loop-caller g l
