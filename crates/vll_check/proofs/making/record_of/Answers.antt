use Rattle.std.proofs.Common.{rules}
use Rattle.vll_check.proofs.making.record_of.Goals as goal

pub overflow_cast-result-in-Some : goal.overflow_cast-result-in-Some
overflow_cast-result-in-Some c = search rules

pub returns-in-Some : goal.returns-in-Some
returns-in-Some c = search rules
