use Rattle.std.proofs.Common.{arith}
use Rattle.vll_check.proofs.Common.{common_steps, is_operation}
use Rattle.vll_check.proofs.measure.+expression_nodes_left.Goals as goal

pub returns-in_ok-left-in-Add-clause-enough : goal.returns-in_ok-left-in-Add-clause-enough
returns-in_ok-left-in-Add-clause-enough t c =
    let two = is_operation c.args.expression.now c.in-Add.first c.in-Add.second c.in-Add.is in
    grind (arith, common_steps)

pub returns-in_ok-left-in-Add-clause-over : goal.returns-in_ok-left-in-Add-clause-over
returns-in_ok-left-in-Add-clause-over t c =
    let two = is_operation c.args.expression.now c.in-Add.first c.in-Add.second c.in-Add.is in
    grind (arith, common_steps)
