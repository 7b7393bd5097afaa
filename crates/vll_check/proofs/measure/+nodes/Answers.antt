use Rattle.std.proofs.Common.{ap, ◌∙◌, arith}
use Rattle.vll_check.proofs.Common.{common_steps, stmt_nodes, stmt_nodes_if, stmt_nodes_repeat}
use Rattle.vll_check.proofs.Counts.{stmt_nodes_positive}
use Rattle.vll_check.proofs.measure.+nodes.Goals as goal

pub statement_nodes_left-returns-in_err-left-clause-over :
    goal.statement_nodes_left-returns-in_err-left-clause-over
statement_nodes_left-returns-in_err-left-clause-over t c =
    let some = stmt_nodes_positive c.args.statement.now in
    grind (arith, common_steps)

pub statement_nodes_left-returns-in_err-left-in-If-2-clause-over :
    goal.statement_nodes_left-returns-in_err-left-in-If-2-clause-over
statement_nodes_left-returns-in_err-left-in-If-2-clause-over t c =
    let all = ap stmt_nodes c.in-If.is ∙ stmt_nodes_if c.in-If.condition c.in-If.first c.in-If.second in
    grind (arith, common_steps)

pub statement_nodes_left-returns-in_ok-left-in-If-2-clause-enough :
    goal.statement_nodes_left-returns-in_ok-left-in-If-2-clause-enough
statement_nodes_left-returns-in_ok-left-in-If-2-clause-enough t c =
    let all = ap stmt_nodes c.in-If.is ∙ stmt_nodes_if c.in-If.condition c.in-If.first c.in-If.second in
    grind (arith, common_steps)

pub statement_nodes_left-returns-in_ok-left-in-If-2-clause-over :
    goal.statement_nodes_left-returns-in_ok-left-in-If-2-clause-over
statement_nodes_left-returns-in_ok-left-in-If-2-clause-over t c =
    let all = ap stmt_nodes c.in-If.is ∙ stmt_nodes_if c.in-If.condition c.in-If.first c.in-If.second in
    grind (arith, common_steps)

pub statement_nodes_left-returns-in-Repeat-clause-enough : goal.statement_nodes_left-returns-in-Repeat-clause-enough
statement_nodes_left-returns-in-Repeat-clause-enough t c =
    let all = ap stmt_nodes c.in-Repeat.is ∙ stmt_nodes_repeat c.in-Repeat.field-0 c.in-Repeat.list in
    grind (arith, common_steps)

pub statement_nodes_left-returns-in-Repeat-clause-over : goal.statement_nodes_left-returns-in-Repeat-clause-over
statement_nodes_left-returns-in-Repeat-clause-over t c =
    let all = ap stmt_nodes c.in-Repeat.is ∙ stmt_nodes_repeat c.in-Repeat.field-0 c.in-Repeat.list in
    grind (arith, common_steps)
