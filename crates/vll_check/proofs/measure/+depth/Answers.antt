use Rattle.std.proofs.Common.{ap, ◌∙◌, arith}
use Rattle.vll_check.proofs.Common.{common_steps, stmt_depth, stmt_depth_if, stmt_depth_repeat}
use Rattle.vll_check.proofs.Counts.{stmt_depth_positive}
use Rattle.vll_check.proofs.measure.+depth.Goals as goal
use Rattle.vll_check.proofs.measure.+depth.Goals.{statement_is_within-then-expression_is_within, statement_is_within-else-expression_is_within}

pub statement_is_within-returns-in_default : goal.statement_is_within-returns-in_default
statement_is_within-returns-in_default t c =
    let some = stmt_depth_positive c.args.statement.now in
    grind (arith, common_steps)

pub statement_is_within-returns-then-is_within : goal.statement_is_within-returns-then-is_within
statement_is_within-returns-then-is_within t c =
    let all = ap stmt_depth c.in-If.is ∙ stmt_depth_if c.in-If.condition c.in-If.first c.in-If.second in
    elim c.if-expression_is_within.branch [ statement_is_within-then-expression_is_within w ↦ grind (arith, common_steps) | statement_is_within-else-expression_is_within w ↦ grind (arith, common_steps) ]

pub statement_is_within-returns-else-is_within : goal.statement_is_within-returns-else-is_within
statement_is_within-returns-else-is_within t c =
    let all = ap stmt_depth c.in-If.is ∙ stmt_depth_if c.in-If.condition c.in-If.first c.in-If.second in
    elim c.if-expression_is_within.branch [ statement_is_within-then-expression_is_within w ↦ grind (arith, common_steps) | statement_is_within-else-expression_is_within w ↦ grind (arith, common_steps) ]

pub statement_is_within-returns-in-Repeat : goal.statement_is_within-returns-in-Repeat
statement_is_within-returns-in-Repeat t c =
    let all = ap stmt_depth c.in-Repeat.is ∙ stmt_depth_repeat c.in-Repeat.field-0 c.in-Repeat.list in
    grind (arith, common_steps)
