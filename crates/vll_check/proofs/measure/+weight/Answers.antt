use Rattle.std.proofs.Common.{ap, ◌∙◌, arith}
use Rattle.vll_check.proofs.Common.{common_steps, weight, weight_if, weight_repeat}
use Rattle.vll_check.proofs.Counts.{weight_positive}
use Rattle.vll_check.proofs.Shares.{shares-enough, shares-over}
use Rattle.vll_check.proofs.measure.+weight.Goals as goal

pub statement_weight_left-returns-in_err-left-clause-over :
    goal.statement_weight_left-returns-in_err-left-clause-over
statement_weight_left-returns-in_err-left-clause-over t c =
    let some = weight_positive c.args.statement.now in
    grind (arith, common_steps)

pub statement_weight_left-returns-in_err-left-in-If-2-clause-over :
    goal.statement_weight_left-returns-in_err-left-in-If-2-clause-over
statement_weight_left-returns-in_err-left-in-If-2-clause-over t c =
    let all = ap weight c.in-If.is ∙ weight_if c.in-If.condition c.in-If.first c.in-If.second in
    grind (arith, common_steps)

pub statement_weight_left-returns-in_ok-left-in-If-2-clause-enough :
    goal.statement_weight_left-returns-in_ok-left-in-If-2-clause-enough
statement_weight_left-returns-in_ok-left-in-If-2-clause-enough t c =
    let all = ap weight c.in-If.is ∙ weight_if c.in-If.condition c.in-If.first c.in-If.second in
    grind (arith, common_steps)

pub statement_weight_left-returns-in_ok-left-in-If-2-clause-over :
    goal.statement_weight_left-returns-in_ok-left-in-If-2-clause-over
statement_weight_left-returns-in_ok-left-in-If-2-clause-over t c =
    let all = ap weight c.in-If.is ∙ weight_if c.in-If.condition c.in-If.first c.in-If.second in
    grind (arith, common_steps)

pub statement_weight_left-returns-in_err-taken-in-Repeat-clause-over :
    goal.statement_weight_left-returns-in_err-taken-in-Repeat-clause-over
statement_weight_left-returns-in_err-taken-in-Repeat-clause-over t c =
    let all = ap weight c.in-Repeat.is ∙ weight_repeat c.in-Repeat.turns c.in-Repeat.list in
    let over = shares-over c.in_ok-left.left c.in-Repeat.turns c.in-Some.share _ c.in-Some.ensures.0 c.in-Some.ensures.1 c.in_err-taken-in-Repeat.ensures.over in
    grind (arith, common_steps)

pub statement_weight_left-returns-in_ok-taken-in-Repeat-clause-enough :
    goal.statement_weight_left-returns-in_ok-taken-in-Repeat-clause-enough
statement_weight_left-returns-in_ok-taken-in-Repeat-clause-enough t c =
    let all = ap weight c.in-Repeat.is ∙ weight_repeat c.in-Repeat.turns c.in-Repeat.list in
    let enough = shares-enough c.in_ok-left.left c.in-Repeat.turns c.in-Some.share _ _ c.in-Some.ensures.1 c.in_ok-taken-in-Repeat.ensures.enough in
    grind (arith, common_steps)

pub weight_left-loop-statement-preserved : goal.weight_left-loop-statement-preserved
weight_left-loop-statement-preserved t c = grind (arith, common_steps)
