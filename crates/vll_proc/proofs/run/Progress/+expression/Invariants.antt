-- An operand is smaller than the expression, and is looked at before it is computed.
use Rattle.std.proofs.Common.{◌+◌, ◌*◌}
use Rattle.vll_proc.proofs.Common.{nodes}
use Rattle.vll_proc.proofs.run.Progress.+expression.Given as goal

abbrev pub decreases-number : goal.decreases-number
decreases-number l = 2 * nodes l.expr.now

abbrev pub decreases-operand : goal.decreases-operand
decreases-operand l = 2 * nodes l.expr.now + 1
