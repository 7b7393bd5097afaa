use Rattle.std.proofs.Common.{◌∙◌}
use Rattle.vll_queue.proofs.Looking.{saw_more}
use Rattle.vll_engine.proofs.engine.Engine.reply_of.Goals as goal

pub returns-in-Some-reply-clause-session : goal.returns-in-Some-reply-clause-session
returns-in-Some-reply-clause-session g c =
    let i = c.loop.invariant in
    (c.reply.ensures.session.0 ∙ i.2, saw_more _ _ _ i.3 c.reply.ensures.session.1)
