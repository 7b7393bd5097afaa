use Rattle.std.proofs.Common.{◌≡◌, ◌<◌, ℕ, length, get_or, ◌∙◌, ap, not, arith}
use Rattle.vll_core.proofs.Common.{get_or_default, FiltersInPlace-more_set, FiltersInPlace-more_no, is_left_at}
use Rattle.vll_core.proofs.Windows.{gathers_from_first, still_there, left_read}
use Rattle.vll_core.proofs.queue.window.gather_left.Goals.{then-not-is_gone, else-not-is_gone}
use Rattle.vll_core.proofs.queue.window.gather_left.Goals as goal

pub loop-i-init : goal.loop-i-init
loop-i-init c = gathers_from_first (is_left_at c.args.statuses.now) c.args.tickets.now c.args.first c.requires.first

pub bounds-statuses-ticket : goal.bounds-statuses-ticket
bounds-statuses-ticket c =
    let below = c.requires.below c.loop-i.i 0 c.loop-i-test.true in
    let same = still_there (is_left_at c.args.statuses.now) c.args.tickets.now c.loop-i.tickets c.loop-i.kept c.loop-i.i c.loop-i.invariant in
    omega (arith, below, same)

pub loop-i-preserved : goal.loop-i-preserved
loop-i-preserved c =
    let h = c.loop-i.invariant in
    let t : ℕ = get_or c.loop-i.tickets c.loop-i.i 0 in
    let inside : c.loop-i.i < length c.loop-i.tickets = omega (arith, c.loop-i-test.true, h.long) in
    let here : t ≡ get_or c.loop-i.tickets c.loop-i.i t = get_or_default c.loop-i.tickets c.loop-i.i 0 t inside in
    let below = c.requires.below c.loop-i.i 0 c.loop-i-test.true in
    let same = still_there (is_left_at c.args.statuses.now) c.args.tickets.now c.loop-i.tickets c.loop-i.kept c.loop-i.i h in
    let read : is_left_at c.args.statuses.now t ≡ not c.is_gone.result = left_read c.args.statuses.now t _ _ (omega (arith, below, same)) c.is_gone.ensures in
    elim c.if-not-is_gone.branch [
      | then-not-is_gone w ↦ rw (w.tickets-is, w.kept-is) (FiltersInPlace-more_set h inside (read ∙ ap not w.if-not-is_gone.true) here)
      | else-not-is_gone w ↦ rw (w.tickets-is, w.kept-is) (FiltersInPlace-more_no h inside (read ∙ ap not w.if-not-is_gone.false) here)
    ]
