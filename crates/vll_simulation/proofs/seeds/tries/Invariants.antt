-- The name is that of the opening, which each engine leaves to the next one.
use Rattle.std.proofs.Common.{◌≡◌, ◌≤◌}
use Rattle.vll_sca.specs.Placing.{placing}
use Rattle.vll_queue.specs.Shown.{name_of}
use Rattle.vll_simulation.specs.declared.closing.TheConstants.{MOST_LIMIT}
use Rattle.vll_simulation.proofs.seeds.tries.Given as goal

abbrev pub invariant-loop : goal.invariant-loop
invariant-loop g l = (l.next.opening.config.limit ≤ MOST_LIMIT) × (l.next.opening.clients ≡ l.clients)

abbrev pub ghosts-runs : goal.ghosts-runs
ghosts-runs g a = record { engine = name_of placing a.opening }
