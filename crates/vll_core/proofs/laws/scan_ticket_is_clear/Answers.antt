use Rattle.vll_core.proofs.laws.scan_ticket_is_clear.Goals as goal
use Rattle.vll_core.proofs.Reached.{scan_reached}

pub returns : goal.returns
returns c = scan_reached
