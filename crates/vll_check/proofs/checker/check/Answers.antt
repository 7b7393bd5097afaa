use Rattle.std.proofs.Common.{rules}
use Rattle.vll_check.proofs.checker.check.Goals as goal

pub invariant_of-result : goal.invariant_of-result
invariant_of-result c = search rules

pub returns-in-None-clause-answer : goal.returns-in-None-clause-answer
returns-in-None-clause-answer c = search rules
