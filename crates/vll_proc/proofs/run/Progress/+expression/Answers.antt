-- Each operator of two operands requires of both what it requires of the whole, and gives what is noted after both.
use Rattle.std.proofs.Common.{arith, sym, ap, ◌∙◌}
use Rattle.vll_proc.proofs.Common.{MOST_CLAIMS, MOST_ARGS, Scene, value_of, scene_of, behind, operation_of, key_is_below, arg_is_below, local_is_known}
use Rattle.vll_proc.proofs.Noted.{is_operation, leaves_left, leaves_right, smaller_left, smaller_right, noted_both}
use Rattle.vll_proc.proofs.run.Progress.+expression.Goals as goal

pub number-operand-x-requires : goal.number-operand-x-requires
number-operand-x-requires t c =
    let e = c.args.expr.now in
    let operand = c.get-in-Add.result.now in
    let is = c.get-in-Add.ensures in
    let two = is_operation e c.in-Add.a c.in-Add.b c.in-Add.is in
    let smaller = smaller_left e c.in-Add.a c.in-Add.b operand two is in
    let keys = leaves_left (key_is_below MOST_CLAIMS) e c.in-Add.a c.in-Add.b operand two is c.requires.keys in
    let args = leaves_left (arg_is_below MOST_ARGS) e c.in-Add.a c.in-Add.b operand two is c.requires.args in
    let locals = leaves_left local_is_known e c.in-Add.a c.in-Add.b operand two is c.requires.locals in
    (omega arith, (c.requires.cells, (keys, (args, locals))))

pub number-operand-y-requires : goal.number-operand-y-requires
number-operand-y-requires t c =
    let e = c.args.expr.now in
    let operand = c.get-in-Add-2.result.now in
    let is = c.get-in-Add-2.ensures in
    let two = is_operation e c.in-Add.a c.in-Add.b c.in-Add.is in
    let smaller = smaller_right e c.in-Add.a c.in-Add.b operand two is in
    let keys = leaves_right (key_is_below MOST_CLAIMS) e c.in-Add.a c.in-Add.b operand two is c.requires.keys in
    let args = leaves_right (arg_is_below MOST_ARGS) e c.in-Add.a c.in-Add.b operand two is c.requires.args in
    let locals = leaves_right local_is_known e c.in-Add.a c.in-Add.b operand two is c.requires.locals in
    (omega arith, (c.requires.cells, (keys, (args, locals))))

pub number-returns-in-Add : goal.number-returns-in-Add
number-returns-in-Add t c =
    let e = c.args.expr.now in
    let s : Scene = scene_of c.args.call.now c.args.cells.now c.args.self.now in
    let two = is_operation e c.in-Add.a c.in-Add.b c.in-Add.is in
    let first = c.operand-x.ensures ∙ ap (λ a. behind c.args.why.now (value_of a s)) c.get-in-Add.ensures in
    let second = c.operand-y.ensures ∙ ap (λ b. behind c.operand-x.new.why (value_of b s)) c.get-in-Add-2.ensures in
    let third = c.number_or_reason.ensures ∙ ap (behind c.operand-y.new.why) c.operation.ensures in
    noted_both (operation_of e) c.args.why.now c.operand-x.new.why c.operand-y.new.why (value_of c.in-Add.a s) (value_of c.in-Add.b s) _ c.operand-x.result c.operand-y.result first second third
    ∙ ap (behind c.args.why.now) (sym (two.value s))
