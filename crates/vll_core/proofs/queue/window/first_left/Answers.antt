use Rattle.std.proofs.Common.{◌∙◌, not, arith, ap}
use Rattle.vll_core.proofs.Common.{is_left_at}
use Rattle.vll_core.proofs.Windows.{first_here, first_past, first_within, left_read}
use Rattle.vll_core.proofs.queue.window.first_left.Goals as goal

pub returns-then-not-is_gone : goal.returns-then-not-is_gone
returns-then-not-is_gone c =
    first_here (is_left_at c.args.statuses.now) c.args.tickets.now c.loop-index.index 0 c.loop-index.invariant c.loop-index-test.true
    (left_read _ _ _ _ (c.requires.below c.loop-index.index 0 c.loop-index-test.true) c.is_gone.ensures ∙ ap not c.if-not-is_gone.true)

pub loop-index-preserved : goal.loop-index-preserved
loop-index-preserved c =
    first_past (is_left_at c.args.statuses.now) c.args.tickets.now c.loop-index.index 0 c.loop-index.invariant c.loop-index-test.true
    (left_read _ _ _ _ (c.requires.below c.loop-index.index 0 c.loop-index-test.true) c.is_gone.ensures ∙ ap not c.if-not-is_gone.false)

pub returns : goal.returns
returns c = let within = first_within (is_left_at c.args.statuses.now) c.args.tickets.now in omega (arith, within, c.loop-index.invariant, c.loop-index-test.false)
