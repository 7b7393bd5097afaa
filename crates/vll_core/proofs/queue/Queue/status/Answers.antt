use Rattle.std.proofs.Common.{◌∙◌}
use Rattle.vll_core.proofs.Entries.{shown_item}
use Rattle.vll_core.proofs.queue.Queue.status.Goals as goal

pub returns : goal.returns
returns g c = c.copied.ensures ∙ shown_item _ _ _ _ _ _ c.self.invariant c.self.view_is c.deref.ensures.value c.ticket.view_is c.get.ensures.lookup
