use Rattle.std.proofs.Common.{rules}
use Rattle.vll_proc.proofs.call.CallPartialEq.eq.Goals as goal

pub returns-else-eq-3 : goal.returns-else-eq-3
returns-else-eq-3 c = search rules
