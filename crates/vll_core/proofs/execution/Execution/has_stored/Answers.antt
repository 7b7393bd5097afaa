use Rattle.std.proofs.Common.{rules}
use Rattle.vll_core.proofs.execution.Execution.has_stored.Goals as goal

pub returns-else-has_aborted-clause-at_work : goal.returns-else-has_aborted-clause-at_work
returns-else-has_aborted-clause-at_work c = search rules

pub returns-else-has_aborted-clause-answer : goal.returns-else-has_aborted-clause-answer
returns-else-has_aborted-clause-answer c = search rules
