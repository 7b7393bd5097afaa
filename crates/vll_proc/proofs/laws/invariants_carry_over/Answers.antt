-- Call by call.
use Rattle.vll_proc.proofs.Joined.{carried_before, carried_to_end}
use Rattle.vll_proc.proofs.laws.invariants_carry_over.Goals as goal

pub returns-clause-before : goal.returns-clause-before
returns-clause-before g c = carried_before g.P.Property.holds

pub returns-clause-end : goal.returns-clause-end
returns-clause-end g c = carried_to_end g.P.Property.holds
