use Rattle.vll_core.proofs.Common.{is_waiting}
use Rattle.vll_core.proofs.Entering.{count_told}
use Rattle.vll_core.proofs.machine.Machine.waiting.Goals as goal

pub returns : goal.returns
returns g c = count_told is_waiting c.self.inside _ _ c.self.invariant.works c.self.view_is c.waiting.ensures
