use Rattle.std.proofs.Common.{rules}
use Rattle.vll_fault_path.proofs.way.way_to_fault.Goals as goal

pub returns-in-Call : goal.returns-in-Call
returns-in-Call c = search rules

pub returns-in-Size : goal.returns-in-Size
returns-in-Size c = search rules
