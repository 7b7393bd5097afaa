use Rattle.vll_core.proofs.Entries.{shown_lines, copied_item}
use Rattle.vll_core.proofs.queue.Queue.line.Goals as goal

pub returns : goal.returns
returns g c =
    rw (shown_lines _ _ c.self.invariant c.self.view_is, ← c.ticket.view_is, ← c.deref.ensures.value)
    (copied_item _ _ _ c.get.ensures.lookup)
