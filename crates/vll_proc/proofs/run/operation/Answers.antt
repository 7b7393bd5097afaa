use Rattle.std.proofs.Common.{rules}
use Rattle.vll_proc.proofs.run.operation.Goals as goal

pub returns-in-Less : goal.returns-in-Less
returns-in-Less c = search rules
