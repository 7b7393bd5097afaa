use Rattle.std.proofs.Common.{ap, ◌∙◌, arith}
use Rattle.vll_check.proofs.Common.{common_steps, turns_are_few, turns_are_few_if, turns_are_few_repeat}
use Rattle.vll_check.proofs.turns.+turns.Goals as goal

pub turns_are_few-returns-then-list_turns_are_few : goal.turns_are_few-returns-then-list_turns_are_few
turns_are_few-returns-then-list_turns_are_few t c =
    let both = ap (turns_are_few c.args.edition) c.in-If.is ∙ turns_are_few_if c.args.edition c.in-If.field-0 c.in-If.first c.in-If.second in
    grind (arith, common_steps)

pub turns_are_few-returns-else-list_turns_are_few : goal.turns_are_few-returns-else-list_turns_are_few
turns_are_few-returns-else-list_turns_are_few t c =
    let both = ap (turns_are_few c.args.edition) c.in-If.is ∙ turns_are_few_if c.args.edition c.in-If.field-0 c.in-If.first c.in-If.second in
    grind (arith, common_steps)

pub turns_are_few-returns-then-may_repeat : goal.turns_are_few-returns-then-may_repeat
turns_are_few-returns-then-may_repeat t c =
    let all = ap (turns_are_few c.args.edition) c.in-Repeat.is ∙ turns_are_few_repeat c.args.edition c.in-Repeat.turns c.in-Repeat.list in
    grind (arith, common_steps)

pub turns_are_few-returns-else-may_repeat : goal.turns_are_few-returns-else-may_repeat
turns_are_few-returns-else-may_repeat t c =
    let all = ap (turns_are_few c.args.edition) c.in-Repeat.is ∙ turns_are_few_repeat c.args.edition c.in-Repeat.turns c.in-Repeat.list in
    grind (arith, common_steps)
