use Rattle.vll_counters.proofs.OnePass.{once, runs}
use Rattle.vll_counters.proofs.laws.tickets_get_one_pass.Goals as goal

pub returns-clause-runs : goal.returns-clause-runs
returns-clause-runs c = runs

pub returns-clause-once : goal.returns-clause-once
returns-clause-once c = once
