use Rattle.vll_sca.specs.Placing.{placing}
use Rattle.vll_core.specs.Moves.{by_event}
use Rattle.vll_core.specs.Shown.{opening_of}
use Rattle.vll_core.proofs.Clients.{clients_stay}
use Rattle.vll_core_tests.proofs.handing.stepped.Goals as goal

pub returns-clause-clients : goal.returns-clause-clients
returns-clause-clients c = clients_stay c.args.core.now c.step.new.self (opening_of placing c.args.core.now) (by_event c.args.event) c.step.ensures.state
