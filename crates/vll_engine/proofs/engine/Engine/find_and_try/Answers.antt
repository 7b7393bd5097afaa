use Rattle.vll_engine.proofs.Attempts.{attempted}
use Rattle.vll_engine.proofs.engine.Engine.find_and_try.Goals as goal

pub returns-clause-answer : goal.returns-clause-answer
returns-clause-answer g c =
    attempted g.N.Name.engine c.args.session.now.session c.find-call.new.session.session c.try_ready.new.session.session c.args.call.now c.find-call.result c.try_ready.result c.try_ready.new.reply c.find-call.ensures.looked c.try_ready.ensures.answer
