use Rattle.vll_core.proofs.laws.front_ticket_is_clear.Goals as goal
use Rattle.vll_core.proofs.Reached.{front_reached}

pub returns : goal.returns
returns c = front_reached
