use Rattle.std.proofs.Common.{sym}
use Rattle.vll_core.proofs.Entries.{shown_lines}
use Rattle.vll_core.proofs.queue.Queue.reopen.Goals as goal

pub returns-clause-lines : goal.returns-clause-lines
returns-clause-lines g c = sym (shown_lines _ _ c.self.invariant c.self.view_is)
