use Rattle.std.proofs.Common.{Bool, ap, ◌∙◌, arith}
use Rattle.vll_check.proofs.Common.{common_steps, Stmt, throughout, branches, throughout_repeat}
use Rattle.vll_proc.specs.declared.syntax.Expr.{Expr}
use Rattle.vll_check.proofs.walk.+throughout.Goals as goal
use Rattle.vll_check.proofs.walk.+throughout.Goals.{throughout-then-all_leaves, throughout-else-all_leaves}

pub throughout-returns-then-list_throughout : goal.throughout-returns-then-list_throughout
throughout-returns-then-list_throughout g t c =
    let is = c.in-If.is in
    elim c.if-all_leaves.branch [ throughout-then-all_leaves w ↦ grind (arith, common_steps, branches) | throughout-else-all_leaves w ↦ grind (arith, common_steps, branches) ]

pub throughout-returns-else-list_throughout : goal.throughout-returns-else-list_throughout
throughout-returns-else-list_throughout g t c =
    let is = c.in-If.is in
    elim c.if-all_leaves.branch [ throughout-then-all_leaves w ↦ grind (arith, common_steps, branches) | throughout-else-all_leaves w ↦ grind (arith, common_steps, branches) ]

pub throughout-returns-in-Repeat : goal.throughout-returns-in-Repeat
throughout-returns-in-Repeat g t c =
    let leaf : Expr → Bool = g.T.LeafTest.passes_leaf c.args.test.now in
    let test : Stmt → Bool = g.T.Test.passes_statement c.args.test.now in
    let list = ap (throughout leaf test) c.in-Repeat.is ∙ throughout_repeat leaf test c.in-Repeat.field-0 c.in-Repeat.list in
    grind (arith, common_steps)
