use Rattle.std.proofs.Common.{rules}
use Rattle.vll_command.proofs.values.range_of.Goals as goal

pub returns-clause-from : goal.returns-clause-from
returns-clause-from c = search rules
