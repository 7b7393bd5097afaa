use Rattle.std.proofs.Common.{◌≤◌}
use Rattle.vll_core.proofs.Common.{first_left}
use Rattle.vll_core.proofs.queue.window.first_left.Given as goal

abbrev pub invariant-loop-index : goal.invariant-loop-index
invariant-loop-index l = l.index ≤ first_left l.statuses l.tickets
