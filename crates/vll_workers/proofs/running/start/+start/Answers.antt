use Rattle.std.proofs.Common.{rules}
use Rattle.vll_workers.proofs.running.start.+start.Goals as goal

pub returns-clause-parts : goal.returns-clause-parts
returns-clause-parts g t c = search rules

pub returns-clause-started : goal.returns-clause-started
returns-clause-started g t c = search rules
