use Rattle.std.proofs.Common.{◌∙◌}
use Rattle.vll_core.proofs.Windows.{left_dropped, first_dropped}
use Rattle.vll_core.proofs.queue.window.Window.shrink.Goals as goal

pub returns-then-len-most-clause-kept : goal.returns-then-len-most-clause-kept
returns-then-len-most-clause-kept c = record {
  tickets = rw c.drop_gone.ensures.left (left_dropped c.args.statuses.now c.args.self.now.tickets.items c.requires.tickets);
  first = rw c.drop_gone.ensures.left (c.drop_gone.ensures.first ∙ first_dropped c.args.statuses.now c.args.self.now.tickets.items);
}
