use Rattle.vll_core.specs.Queue.{lines}
use Rattle.vll_queue.proofs.Ending.{have_calls_of}
use Rattle.vll_engine.proofs.engine.Engine.close.Goals as goal

pub returns-in-Ok-clause-sessions : goal.returns-in-Ok-clause-sessions
returns-in-Ok-clause-sessions g c =
    have_calls_of c.args.sessions.items (lines c.in-Ok.ended.queue) c.into_closed.result.journal.items c.into_closed.ensures.journal c.in-Ok.ensures.sessions
