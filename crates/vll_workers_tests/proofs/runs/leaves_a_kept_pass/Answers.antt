use Rattle.vll_engine.proofs.Opens.{new_sessions_are_there}
use Rattle.vll_workers_tests.proofs.runs.leaves_a_kept_pass.Goals as goal

pub last_of-idle-requires : goal.last_of-idle-requires
last_of-idle-requires g c = new_sessions_are_there g.N.Name.engine.table g.N.Name.engine.clients c.start-engine.result.1.items c.start-engine.ensures.sessions
