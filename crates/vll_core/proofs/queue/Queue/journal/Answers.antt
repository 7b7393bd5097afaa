use Rattle.vll_core.proofs.Entries.{shown_queued, shown_lines}
use Rattle.vll_core.proofs.queue.Queue.journal.Goals as goal

pub returns-clause-lines : goal.returns-clause-lines
returns-clause-lines g c = rw (shown_lines _ _ c.self.invariant c.self.view_is) c.deref.ensures.value

pub returns-clause-kept : goal.returns-clause-kept
returns-clause-kept g c = shown_queued _ _ c.self.invariant c.self.view_is
