use Rattle.vll_core.specs.Queue.{lines}
use Rattle.vll_queue.proofs.Ending.{err_from, have_calls_of, ok_from}
use Rattle.vll_engine.proofs.engine.Engine.reopen.Goals as goal

pub returns-in-Ok-clause-sessions : goal.returns-in-Ok-clause-sessions
returns-in-Ok-clause-sessions g c =
    ok_from _ _ c.reopen.result (λ r same. have_calls_of c.args.sessions.items (lines c.in-Ok.ended.queue) r.journal.items same c.in-Ok.ensures.sessions) c.reopen.ensures.lines

pub returns-in-Ok-clause-closed_sessions : goal.returns-in-Ok-clause-closed_sessions
returns-in-Ok-clause-closed_sessions g c =
    err_from _ _ c.reopen.result (λ n of. ok_from _ _ n.left (λ x same. have_calls_of c.args.sessions.items (lines c.in-Ok.ended.queue) x.journal.items same c.in-Ok.ensures.sessions) of) c.reopen.ensures.closed_lines
