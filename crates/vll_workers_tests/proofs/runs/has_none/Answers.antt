use Rattle.vll_engine.proofs.Opens.{new_sessions_are_there}
use Rattle.vll_tokens.proofs.Distinct.{distinct_none}
use Rattle.vll_workers_tests.proofs.runs.has_none.Goals as goal

pub last_of-session-requires : goal.last_of-session-requires
last_of-session-requires g c = new_sessions_are_there g.N.Name.engine.table g.N.Name.engine.clients c.start-engine.result.1.items c.start-engine.ensures.sessions

pub run-requires-clause-distinct : goal.run-requires-clause-distinct
run-requires-clause-distinct g c κs within = distinct_none c.new-tokens.result.items c.new-tokens.ensures.items
