use Rattle.vll_core.proofs.laws.finished_machines_have_the_serial_end.Goals as goal
use Rattle.vll_core.proofs.Finished.{finished_reached}

pub returns : goal.returns
returns c = finished_reached
