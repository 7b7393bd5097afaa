use Rattle.std.proofs.Common.{rules}
use Rattle.vll_check.proofs.turns.may_repeat.Goals as goal

pub returns-in-One : goal.returns-in-One
returns-in-One c = search rules
