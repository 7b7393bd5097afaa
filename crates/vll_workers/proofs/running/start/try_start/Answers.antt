use Rattle.std.proofs.Common.{rules}
use Rattle.vll_workers.proofs.running.start.try_start.Goals as goal

pub returns-in-Ok-clause-started : goal.returns-in-Ok-clause-started
returns-in-Ok-clause-started g c = search rules
