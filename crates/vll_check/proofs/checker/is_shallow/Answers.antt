use Rattle.std.proofs.Common.{rules}
use Rattle.vll_check.proofs.checker.is_shallow.Goals as goal

pub returns : goal.returns
returns c = search rules
