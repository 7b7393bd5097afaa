-- The body may run on the cells, and what it ends with there is what it ends with on the records.
use Rattle.std.proofs.Common.{sym, ◌∙◌}
use Rattle.vll_proc.proofs.Runs.{ends_moved, told}
use Rattle.vll_proc.proofs.frame.Frame.run.Goals as goal

pub returns-then-has_moved-clause-reply : goal.returns-then-has_moved-clause-reply
returns-then-has_moved-clause-reply c = λ records made holds.
    let whole = rw c.self.view_is at c.self.told in
    let moved = ends_moved c.args.procedure.now c.args.call.now c.args.self.now (sym c.has_moved.ensures ∙ c.if-has_moved.true) in
    sym (told c.args.procedure.now c.args.call.now c.args.self.now records _ c.requires.formed made whole moved holds).0

pub returns-then-has_moved-clause-cells : goal.returns-then-has_moved-clause-cells
returns-then-has_moved-clause-cells c = λ records made holds.
    let whole = rw c.self.view_is at c.self.told in
    let moved = ends_moved c.args.procedure.now c.args.call.now c.args.self.now (sym c.has_moved.ensures ∙ c.if-has_moved.true) in
    (told c.args.procedure.now c.args.call.now c.args.self.now records _ c.requires.formed made whole moved holds).1
