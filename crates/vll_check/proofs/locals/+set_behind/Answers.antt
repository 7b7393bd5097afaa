use Rattle.std.proofs.Common.{ap, ◌∙◌, arith}
use Rattle.vll_check.proofs.Common.{common_steps, Stmt, reads_set, set_behind, reads_set_if, reads_set_repeat, set_behind_if, set_behind_repeat}
use Rattle.vll_check.proofs.locals.+set_behind.Goals as goal
use Rattle.vll_check.proofs.locals.+set_behind.Goals.{set_behind-then-turns-eq0, set_behind-else-turns-eq0}

pub set_behind-returns-in_err-behind_first-in-If : goal.set_behind-returns-in_err-behind_first-in-If
set_behind-returns-in_err-behind_first-in-If t c =
    let reads = ap (reads_set c.args.before) c.in-If.is ∙ reads_set_if c.args.before c.in-If.condition c.in-If.first c.in-If.second in
    grind (arith, common_steps)

pub set_behind-returns-in_err-behind_second-in-If : goal.set_behind-returns-in_err-behind_second-in-If
set_behind-returns-in_err-behind_second-in-If t c =
    let reads = ap (reads_set c.args.before) c.in-If.is ∙ reads_set_if c.args.before c.in-If.condition c.in-If.first c.in-If.second in
    grind (arith, common_steps)

pub set_behind-returns-in_ok-behind_second-in-If : goal.set_behind-returns-in_ok-behind_second-in-If
set_behind-returns-in_ok-behind_second-in-If t c =
    let reads = ap (reads_set c.args.before) c.in-If.is ∙ reads_set_if c.args.before c.in-If.condition c.in-If.first c.in-If.second in
    let behind = ap (λ (st : Stmt). set_behind st c.args.before) c.in-If.is ∙ set_behind_if c.in-If.condition c.in-If.first c.in-If.second c.args.before in
    grind (arith, common_steps)

pub set_behind-returns-in_err-behind-in-Repeat : goal.set_behind-returns-in_err-behind-in-Repeat
set_behind-returns-in_err-behind-in-Repeat t c =
    let reads = ap (reads_set c.args.before) c.in-Repeat.is ∙ reads_set_repeat c.args.before c.in-Repeat.turns c.in-Repeat.list in
    grind (arith, common_steps)

pub set_behind-returns-after-turns-eq0 : goal.set_behind-returns-after-turns-eq0
set_behind-returns-after-turns-eq0 t c =
    let reads = ap (reads_set c.args.before) c.in-Repeat.is ∙ reads_set_repeat c.args.before c.in-Repeat.turns c.in-Repeat.list in
    let behind = ap (λ (st : Stmt). set_behind st c.args.before) c.in-Repeat.is ∙ set_behind_repeat c.in-Repeat.turns c.in-Repeat.list c.args.before in
    elim c.if-turns-eq0.branch [ set_behind-then-turns-eq0 w ↦ grind (arith, common_steps) | set_behind-else-turns-eq0 w ↦ grind (arith, common_steps) ]
