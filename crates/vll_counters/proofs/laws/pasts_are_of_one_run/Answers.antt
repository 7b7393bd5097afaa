use Rattle.vll_counters.proofs.Between.{one_run, one_begins, longer_has_both}
use Rattle.vll_counters.proofs.laws.pasts_are_of_one_run.Goals as goal

pub returns-clause-history : goal.returns-clause-history
returns-clause-history c = one_run

pub returns-clause-order : goal.returns-clause-order
returns-clause-order c = one_begins

pub returns-clause-longer : goal.returns-clause-longer
returns-clause-longer c = longer_has_both
