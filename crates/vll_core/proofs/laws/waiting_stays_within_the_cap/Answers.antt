use Rattle.vll_core.proofs.laws.waiting_stays_within_the_cap.Goals as goal
use Rattle.vll_core.proofs.Reached.{waiting_within}

pub returns : goal.returns
returns c = waiting_within
