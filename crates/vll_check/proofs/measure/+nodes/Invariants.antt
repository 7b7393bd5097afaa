-- What is left, with the nodes that are still to come.
use Rattle.std.proofs.Common.{◌≡◌, ◌+◌, drop, sum_by}
use Rattle.vll_check.proofs.Common.{stmt_nodes}
use Rattle.vll_check.proofs.measure.+nodes.Given as goal

abbrev pub invariant-nodes_left-loop-statement : goal.invariant-nodes_left-loop-statement
invariant-nodes_left-loop-statement l = l.limit + sum_by stmt_nodes (drop l.statement-index l.statements) ≡ l.left + sum_by stmt_nodes l.statements
