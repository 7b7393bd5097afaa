-- The sessions that are left are of the engine.
use Rattle.std.proofs.Common.{◌≡◌, vec_len}
use Rattle.std.specs.List.{All}
use Rattle.vll_simulation.proofs.world.callers.Given as goal

abbrev pub invariant-loop-script : goal.invariant-loop-script
invariant-loop-script g l = All (λ s. s.table ≡ g.N.Name.engine.table) l.sessions.items

abbrev pub decreases-loop-script : goal.decreases-loop-script
decreases-loop-script g l = vec_len l.scripts
