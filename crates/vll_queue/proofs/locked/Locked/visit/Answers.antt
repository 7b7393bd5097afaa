use Rattle.std.proofs.Common.{None}
use Rattle.vll_queue.proofs.Learning.{left_others}
use Rattle.vll_queue.proofs.locked.Locked.visit.Goals as goal

pub returns-clause-others : goal.returns-clause-others
returns-clause-others g c = left_others c.args.words.now.base c.self.inside.seat c.join_session.new.queue _ c.args.session.session None c.give_session.result c.join_session.ensures.session c.join_session.ensures.queue c.give_session.ensures.session
