use Rattle.std.proofs.Common.{rules}
use Rattle.vll_scenario.proofs.reading.syntax.statement.repeat_of.Goals as goal

pub returns-in-Two : goal.returns-in-Two
returns-in-Two c = search rules

pub returns-in-One : goal.returns-in-One
returns-in-One c = search rules
