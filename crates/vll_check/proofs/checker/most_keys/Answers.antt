use Rattle.std.proofs.Common.{rules}
use Rattle.vll_check.proofs.checker.most_keys.Goals as goal

pub returns-in-Two-clause-value : goal.returns-in-Two-clause-value
returns-in-Two-clause-value c = search rules

pub returns-in-Two-clause-few : goal.returns-in-Two-clause-few
returns-in-Two-clause-few c = search rules
