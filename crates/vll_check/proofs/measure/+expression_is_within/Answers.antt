use Rattle.std.proofs.Common.{arith}
use Rattle.vll_check.proofs.Common.{common_steps, is_operation}
use Rattle.vll_check.proofs.measure.+expression_is_within.Goals as goal

pub returns-then-expression_is_within : goal.returns-then-expression_is_within
returns-then-expression_is_within t c =
    let two = is_operation c.args.expression.now c.in-Add.first c.in-Add.second c.in-Add.is in
    grind (arith, common_steps)

pub returns-else-expression_is_within : goal.returns-else-expression_is_within
returns-else-expression_is_within t c =
    let two = is_operation c.args.expression.now c.in-Add.first c.in-Add.second c.in-Add.is in
    grind (arith, common_steps)
