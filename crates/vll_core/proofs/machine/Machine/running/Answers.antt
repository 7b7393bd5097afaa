use Rattle.vll_core.proofs.Common.{is_running}
use Rattle.vll_core.proofs.Entering.{count_told}
use Rattle.vll_core.proofs.machine.Machine.running.Goals as goal

pub returns : goal.returns
returns g c = count_told is_running c.self.inside _ _ c.self.invariant.works c.self.view_is c.running.ensures
