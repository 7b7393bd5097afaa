-- The new sessions are of the engine's words.
use Rattle.vll_engine.proofs.Opens.{new_sessions_are_there}
use Rattle.vll_engine.proofs.opening.Opening.start_clients.Goals as goal

pub of-requires-clause-sessions : goal.of-requires-clause-sessions
of-requires-clause-sessions g c = new_sessions_are_there g.N.Name.engine.table g.N.Name.engine.clients c.start-engine.result.1.items c.start-engine.ensures.sessions
