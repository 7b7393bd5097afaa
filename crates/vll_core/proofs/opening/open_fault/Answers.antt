use Rattle.std.proofs.Common.{rules}
use Rattle.vll_core.proofs.opening.open_fault.Goals as goal

pub returns : goal.returns
returns c = search rules
