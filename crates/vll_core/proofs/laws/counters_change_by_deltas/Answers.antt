use Rattle.vll_core.proofs.laws.counters_change_by_deltas.Goals as goal
use Rattle.vll_core.proofs.Counters.{counters_change}

pub returns : goal.returns
returns c = counters_change
