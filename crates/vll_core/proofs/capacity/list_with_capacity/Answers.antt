use Rattle.std.proofs.Common.{rules}
use Rattle.vll_core.proofs.capacity.list_with_capacity.Goals as goal

pub returns-clause-items : goal.returns-clause-items
returns-clause-items g c = search rules
