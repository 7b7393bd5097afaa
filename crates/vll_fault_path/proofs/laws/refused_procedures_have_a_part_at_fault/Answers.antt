use Rattle.vll_fault_path.proofs.Refused.{has_a_part}
use Rattle.vll_fault_path.proofs.laws.refused_procedures_have_a_part_at_fault.Goals as goal

pub returns : goal.returns
returns c = has_a_part
