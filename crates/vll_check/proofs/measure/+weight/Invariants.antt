-- What is left, with the weight that is still to come.
use Rattle.std.proofs.Common.{◌≡◌, ◌+◌, drop, sum_by}
use Rattle.vll_check.proofs.Common.{weight}
use Rattle.vll_check.proofs.measure.+weight.Given as goal

abbrev pub invariant-weight_left-loop-statement : goal.invariant-weight_left-loop-statement
invariant-weight_left-loop-statement l = l.limit + sum_by weight (drop l.statement-index l.statements) ≡ l.left + sum_by weight l.statements
