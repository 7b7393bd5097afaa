use Rattle.std.proofs.Common.{arith}
use Rattle.vll_check.proofs.Common.{common_steps, is_operation}
use Rattle.vll_check.proofs.walk.+all_leaves.Goals as goal

pub returns-then-all_leaves : goal.returns-then-all_leaves
returns-then-all_leaves g t c =
    let pair = (is_operation c.args.expression.now c.in-Add.left c.in-Add.right c.in-Add.is).leaves (g.T.LeafTest.passes_leaf c.args.test.now) in
    grind (arith, common_steps)
