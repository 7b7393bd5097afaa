use Rattle.std.proofs.Common.{rules}
use Rattle.vll_check.proofs.checker.fault_of_names.Goals as goal

pub returns-then-not-has_writable_keys : goal.returns-then-not-has_writable_keys
returns-then-not-has_writable_keys c = search rules
