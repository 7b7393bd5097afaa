use Rattle.vll_counters.proofs.Between.{has_pass, of_running, one_pass}
use Rattle.vll_counters.proofs.laws.tickets_have_one_pass.Goals as goal

pub returns-clause-running : goal.returns-clause-running
returns-clause-running c = has_pass

pub returns-clause-other : goal.returns-clause-other
returns-clause-other c = of_running

pub returns-clause-one : goal.returns-clause-one
returns-clause-one c = one_pass
