use Rattle.vll_core.proofs.Common.{FiltersInPlace, is_left_at}
use Rattle.vll_core.proofs.queue.window.gather_left.Given as goal

abbrev pub invariant-loop-i : goal.invariant-loop-i
invariant-loop-i l = FiltersInPlace (is_left_at l.statuses) l.fn.tickets l.tickets l.kept l.i
