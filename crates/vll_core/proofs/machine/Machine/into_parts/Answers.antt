use Rattle.std.proofs.Common.{◌∙◌}
use Rattle.vll_core.proofs.Journal.{lines_shown}
use Rattle.vll_core.proofs.machine.Machine.into_parts.Goals as goal

pub returns-clause-journal : goal.returns-clause-journal
returns-clause-journal g c = c.into_journal.ensures.lines ∙ lines_shown c.self.inside c.args.self c.self.invariant c.self.view_is
