use Rattle.vll_engine.proofs.Opens.{new_sessions_are_there}
use Rattle.vll_simulation.proofs.world.started.Goals as goal

pub returns : goal.returns
returns g c = new_sessions_are_there g.N.Name.engine.table g.N.Name.engine.clients c.start.result.1.items c.start.ensures.sessions
