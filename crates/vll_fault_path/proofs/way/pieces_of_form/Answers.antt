use Rattle.std.proofs.Common.{rules}
use Rattle.vll_fault_path.proofs.way.pieces_of_form.Goals as goal

pub returns-in-Procedure : goal.returns-in-Procedure
returns-in-Procedure c = search rules
