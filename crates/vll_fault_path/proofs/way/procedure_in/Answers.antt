use Rattle.std.proofs.Common.{rules}
use Rattle.vll_fault_path.proofs.way.procedure_in.Goals as goal

pub returns : goal.returns
returns c = search rules
