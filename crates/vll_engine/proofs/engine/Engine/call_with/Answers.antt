-- What is said of the attempt that made the call is said of all of them.
use Rattle.vll_engine.proofs.Attempts.{called_more}
use Rattle.vll_engine.proofs.engine.Engine.call_with.Goals as goal

pub returns-in-Ok-Some-clause-called : goal.returns-in-Ok-Some-clause-called
returns-in-Ok-Some-clause-called g c =
    let i = c.loop.invariant in
    called_more g.N.Name.engine c.args.session.now.session c.loop.session.session c.try_call.new.session.session c.args.call.now c.in-Ok-Some.ticket c.try_call.new.reply i.3 i.4
    (rw c.in-Ok-Some.field-0-is at c.in-Ok-Some.ensures.answer)
