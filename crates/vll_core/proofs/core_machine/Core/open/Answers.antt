use Rattle.std.proofs.Common.{rules}
use Rattle.vll_core.proofs.core_machine.Core.open.Goals as goal

pub returns-in_err-machine-clause-refused : goal.returns-in_err-machine-clause-refused
returns-in_err-machine-clause-refused g c = search rules

pub returns-clause-refused : goal.returns-clause-refused
returns-clause-refused g c = search rules

pub returns-clause-opened : goal.returns-clause-opened
returns-clause-opened g c = search rules
