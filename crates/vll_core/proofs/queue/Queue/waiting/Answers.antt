use Rattle.vll_core.proofs.Entries.{shown_statuses}
use Rattle.vll_core.proofs.queue.Queue.waiting.Goals as goal

pub returns : goal.returns
returns g c = rw (shown_statuses _ _ c.self.invariant c.self.view_is) c.self.invariant.waiting
