use Rattle.vll_core.proofs.laws.counters_stay_within_the_limit.Goals as goal
use Rattle.vll_core.proofs.Counters.{counters_within}

pub returns : goal.returns
returns c = counters_within
