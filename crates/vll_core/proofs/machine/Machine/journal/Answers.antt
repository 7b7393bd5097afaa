use Rattle.std.proofs.Common.{◌∙◌}
use Rattle.vll_core.proofs.Journal.{lines_shown}
use Rattle.vll_core.proofs.machine.Machine.journal.Goals as goal

pub returns-clause-lines : goal.returns-clause-lines
returns-clause-lines g c = c.journal.ensures.lines ∙ lines_shown c.self.inside c.args.self.now c.self.invariant c.self.view_is
