use Rattle.std.proofs.Common.{rules}
use Rattle.vll_scenario.proofs.reading.syntax.expression.operation_of.Goals as goal

pub returns-in-sub : goal.returns-in-sub
returns-in-sub c = search rules
