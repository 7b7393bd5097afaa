use Rattle.std.proofs.Common.{◌∙◌}
use Rattle.vll_core.proofs.Journal.{status_shown}
use Rattle.vll_core.proofs.machine.Machine.state.Goals as goal

pub returns : goal.returns
returns g c = c.status.ensures ∙ status_shown c.self.inside c.args.self.now c.args.ticket c.self.invariant c.self.view_is
