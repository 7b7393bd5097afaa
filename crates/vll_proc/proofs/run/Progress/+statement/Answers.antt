-- An `If` does what the list that it chooses does, and a `Repeat` what the turns of its list do.
use Rattle.std.proofs.Common.{rules, arith, map, sum_by, sym, ◌∙◌}
use Rattle.vll_proc.proofs.Common.{list_all, MOST_CLAIMS, MOST_ARGS, effect, in_turn, scene_of, replies, key_is_below, set_is_below, arg_is_below, any_stmt, local_is_known, let_is_known}
use Rattle.std.proofs.lemmas.Grind.{common_steps}
use Rattle.vll_proc.proofs.Lists.{effect_if, effect_repeat, throughout_if, throughout_repeat, replies_if, replies_repeat, stmt_nodes_if, stmt_nodes_repeat}
use Rattle.vll_proc.proofs.Nothing.{repeated-taken, product-taken}
use Rattle.vll_proc.proofs.Turns.{repeated-left, product-left}
use Rattle.vll_proc.specs.Steps.{does_nothing}
use Rattle.vll_proc.proofs.run.Progress.+statement.Goals as goal

pub step-steps-requires : goal.step-steps-requires
step-steps-requires t c =
    let is = c.in-If.is in
    let list = c.as_slice.ensures in
    let nodes = stmt_nodes_if c.in-If.expr c.in-If.first c.in-If.second in
    let replies = replies_if c.in-If.expr c.in-If.first c.in-If.second in
    let keys = throughout_if (key_is_below MOST_CLAIMS) (set_is_below MOST_CLAIMS) c.in-If.expr c.in-If.first c.in-If.second in
    let args = throughout_if (arg_is_below MOST_ARGS) any_stmt c.in-If.expr c.in-If.first c.in-If.second in
    let locals = throughout_if local_is_known let_is_known c.in-If.expr c.in-If.first c.in-If.second in
    grind (arith, common_steps)

pub step-steps-requires-else-branch-ne0 : goal.step-steps-requires-else-branch-ne0
step-steps-requires-else-branch-ne0 t c =
    let is = c.in-If.is in
    let list = c.as_slice-else-branch-ne0.ensures in
    let nodes = stmt_nodes_if c.in-If.expr c.in-If.first c.in-If.second in
    let replies = replies_if c.in-If.expr c.in-If.first c.in-If.second in
    let keys = throughout_if (key_is_below MOST_CLAIMS) (set_is_below MOST_CLAIMS) c.in-If.expr c.in-If.first c.in-If.second in
    let args = throughout_if (arg_is_below MOST_ARGS) any_stmt c.in-If.expr c.in-If.first c.in-If.second in
    let locals = throughout_if local_is_known let_is_known c.in-If.expr c.in-If.first c.in-If.second in
    grind (arith, common_steps)

pub step-returns-then-branch-ne0-clause-effect : goal.step-returns-then-branch-ne0-clause-effect
step-returns-then-branch-ne0-clause-effect t c =
    let is = c.in-If.is in
    let list = c.as_slice.ensures in
    let chosen = c.if-branch-ne0.true in
    let value = c.in_ok-value-in-If.ensures in
    let rest = c.steps.ensures.effect in
    grind (arith, common_steps, effect_if)

pub step-returns-then-branch-ne0-clause-outputs : goal.step-returns-then-branch-ne0-clause-outputs
step-returns-then-branch-ne0-clause-outputs t c =
    let is = c.in-If.is in
    let list = c.as_slice.ensures in
    let rest = c.steps.ensures.outputs in
    grind (arith, common_steps, replies_if)

pub step-returns-else-branch-ne0-clause-effect : goal.step-returns-else-branch-ne0-clause-effect
step-returns-else-branch-ne0-clause-effect t c =
    let is = c.in-If.is in
    let list = c.as_slice-else-branch-ne0.ensures in
    let chosen = c.if-branch-ne0.false in
    let value = c.in_ok-value-in-If.ensures in
    let rest = c.steps-else-branch-ne0.ensures.effect in
    grind (arith, common_steps, effect_if)

pub step-returns-else-branch-ne0-clause-outputs : goal.step-returns-else-branch-ne0-clause-outputs
step-returns-else-branch-ne0-clause-outputs t c =
    let is = c.in-If.is in
    let list = c.as_slice-else-branch-ne0.ensures in
    let rest = c.steps-else-branch-ne0.ensures.outputs in
    grind (arith, common_steps, replies_if)

pub step-turns-requires : goal.step-turns-requires
step-turns-requires t c =
    let is = c.in-Repeat.is in
    let list = c.as_slice-list.ensures in
    let taken = c.turns_taken.ensures in
    let most = product-taken c.in-Repeat.count (list_all does_nothing c.in-Repeat.list) (sum_by replies c.in-Repeat.list) in
    let nodes = stmt_nodes_repeat c.in-Repeat.count c.in-Repeat.list in
    let replies = replies_repeat c.in-Repeat.count c.in-Repeat.list in
    let keys = throughout_repeat (key_is_below MOST_CLAIMS) (set_is_below MOST_CLAIMS) c.in-Repeat.count c.in-Repeat.list in
    let args = throughout_repeat (arg_is_below MOST_ARGS) any_stmt c.in-Repeat.count c.in-Repeat.list in
    let locals = throughout_repeat local_is_known let_is_known c.in-Repeat.count c.in-Repeat.list in
    grind (arith, common_steps)

pub step-returns-in-Repeat-clause-effect : goal.step-returns-in-Repeat-clause-effect
step-returns-in-Repeat-clause-effect t c =
    let is = c.in-Repeat.is in
    let list = c.as_slice-list.ensures in
    let taken = c.turns_taken.ensures in
    let turns = c.turns.ensures.effect in
    let all = repeated-taken c.in-Repeat.count c.in-Repeat.list (scene_of c.args.call.now c.args.cells.now c.args.self.now) in
    grind (arith, common_steps, effect_repeat)

pub step-returns-in-Repeat-clause-outputs : goal.step-returns-in-Repeat-clause-outputs
step-returns-in-Repeat-clause-outputs t c =
    let is = c.in-Repeat.is in
    let list = c.as_slice-list.ensures in
    let taken = c.turns_taken.ensures in
    let most = product-taken c.in-Repeat.count (list_all does_nothing c.in-Repeat.list) (sum_by replies c.in-Repeat.list) in
    let turns = c.turns.ensures.outputs in
    grind (arith, common_steps, replies_repeat)

pub turns-loop-preserved : goal.turns-loop-preserved
turns-loop-preserved t c =
    let n = c.args.count in
    let i = c.loop.counter in
    let list = c.args.statements.now in
    let call = c.args.call.now in
    let left = repeated-left n i (in_turn (map effect list)) (scene_of call c.loop.cells c.loop.self) (scene_of call c.steps.new.cells c.steps.new.self) c.loop-test.true c.in_ok-steps.ensures.effect in
    let size = product-left n i (sum_by replies list) c.loop-test.true in
    let more = c.in_ok-steps.ensures.outputs in
    (sym left ∙ c.loop.invariant.0, omega (arith, size, more, c.loop.invariant.1), λ n below. c.in_ok-steps.ensures.others n below ∙ c.loop.invariant.2 n below)

pub step-returns-in-Abort-clause-effect : goal.step-returns-in-Abort-clause-effect
step-returns-in-Abort-clause-effect t c = search rules

pub step-returns-in_ok-value-in-Reply-clause-effect : goal.step-returns-in_ok-value-in-Reply-clause-effect
step-returns-in_ok-value-in-Reply-clause-effect t c = search rules
