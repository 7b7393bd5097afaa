-- Running the rest, from the present scene, has the same result as running all of it from the start.
-- A list has more nodes than each of its statements, and a statement more than each of its lists.
use Rattle.std.proofs.Common.{◌≡◌, ◌+◌, ◌-◌, ◌*◌, ℕ, ◌≤◌, length, map, drop, sum_by}
use Rattle.vll_proc.proofs.Common.{effect, in_turn, repeated, scene_of, HasCellsBelow, replies, stmt_nodes}
use Rattle.vll_proc.proofs.run.Progress.+statement.Given as goal

abbrev pub invariant-steps-loop-statement : goal.invariant-steps-loop-statement
invariant-steps-loop-statement l =
    (in_turn (map effect (drop l.statement-index l.statements)) (scene_of l.call l.cells l.self) ≡ in_turn (map effect l.statements) (scene_of l.call l.fn.cells l.fn.self))
    × (length l.self.outputs + sum_by replies (drop l.statement-index l.statements) ≤ length l.fn.self.outputs + sum_by replies l.statements)
    × ((n : ℕ) → HasCellsBelow n l.call → drop n l.cells ≡ drop n l.fn.cells)

abbrev pub invariant-turns-loop : goal.invariant-turns-loop
invariant-turns-loop l =
    (repeated (l.count - l.counter) (in_turn (map effect l.statements)) (scene_of l.call l.cells l.self) ≡ repeated l.count (in_turn (map effect l.statements)) (scene_of l.call l.fn.cells l.fn.self))
    × (length l.self.outputs + (l.count - l.counter) * sum_by replies l.statements ≤ length l.fn.self.outputs + l.count * sum_by replies l.statements)
    × ((n : ℕ) → HasCellsBelow n l.call → drop n l.cells ≡ drop n l.fn.cells)

abbrev pub decreases-steps : goal.decreases-steps
decreases-steps l = 3 * sum_by stmt_nodes l.statements.now + 1

abbrev pub decreases-turns : goal.decreases-turns
decreases-turns l = 3 * sum_by stmt_nodes l.statements.now + 2

abbrev pub decreases-step : goal.decreases-step
decreases-step l = 3 * stmt_nodes l.statement.now
