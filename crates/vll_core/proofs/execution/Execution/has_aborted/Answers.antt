use Rattle.std.proofs.Common.{rules}
use Rattle.vll_core.proofs.execution.Execution.has_aborted.Goals as goal

pub returns-in_default : goal.returns-in_default
returns-in_default c = search rules
