use Rattle.std.proofs.Common.{ap, ◌∙◌, arith}
use Rattle.vll_check.proofs.Common.{common_steps, replies, replies_if, replies_repeat}
use Rattle.vll_check.proofs.Shares.{shares-enough, shares-over}
use Rattle.vll_check.proofs.measure.+replies.Goals as goal

pub statement_replies_left-returns-in_err-behind_first-in-If-clause-over :
    goal.statement_replies_left-returns-in_err-behind_first-in-If-clause-over
statement_replies_left-returns-in_err-behind_first-in-If-clause-over t c =
    let both = ap replies c.in-If.is ∙ replies_if c.in-If.field-0 c.in-If.first c.in-If.second in
    grind (arith, common_steps)

pub statement_replies_left-returns-in_err-behind_second-in-If-clause-over :
    goal.statement_replies_left-returns-in_err-behind_second-in-If-clause-over
statement_replies_left-returns-in_err-behind_second-in-If-clause-over t c =
    let both = ap replies c.in-If.is ∙ replies_if c.in-If.field-0 c.in-If.first c.in-If.second in
    grind (arith, common_steps)

pub statement_replies_left-returns-in_ok-behind_second-in-If-clause-enough :
    goal.statement_replies_left-returns-in_ok-behind_second-in-If-clause-enough
statement_replies_left-returns-in_ok-behind_second-in-If-clause-enough t c =
    let both = ap replies c.in-If.is ∙ replies_if c.in-If.field-0 c.in-If.first c.in-If.second in
    grind (arith, common_steps)

pub statement_replies_left-returns-in_err-taken-in-Repeat-clause-over :
    goal.statement_replies_left-returns-in_err-taken-in-Repeat-clause-over
statement_replies_left-returns-in_err-taken-in-Repeat-clause-over t c =
    let all = ap replies c.in-Repeat.is ∙ replies_repeat c.in-Repeat.turns c.in-Repeat.list in
    let over = shares-over c.args.limit c.in-Repeat.turns c.in-Some.share _ c.in-Some.ensures.0 c.in-Some.ensures.1 c.in_err-taken-in-Repeat.ensures.over in
    grind (arith, common_steps)

pub statement_replies_left-returns-in_ok-taken-in-Repeat-clause-enough :
    goal.statement_replies_left-returns-in_ok-taken-in-Repeat-clause-enough
statement_replies_left-returns-in_ok-taken-in-Repeat-clause-enough t c =
    let all = ap replies c.in-Repeat.is ∙ replies_repeat c.in-Repeat.turns c.in-Repeat.list in
    let enough = shares-enough c.args.limit c.in-Repeat.turns c.in-Some.share _ _ c.in-Some.ensures.1 c.in_ok-taken-in-Repeat.ensures.enough in
    grind (arith, common_steps)
