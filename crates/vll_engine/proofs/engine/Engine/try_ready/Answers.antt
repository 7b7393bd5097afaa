-- The call has entered, and its session was given its reply.
use Rattle.std.proofs.Common.{ℕ, ap, ◌∙◌, subst}
use Rattle.vll_queue.specs.Headline.Sessions.{SawOwn}
use Rattle.vll_queue.specs.Pass.{DoneShown}
use Rattle.vll_engine.proofs.Attempts.{is_finished, is_made}
use Rattle.vll_engine.proofs.engine.Engine.try_ready.Goals as goal

pub returns-in-Free-clause-answer : goal.returns-in-Free-clause-answer
returns-in-Free-clause-answer g c =
    let old = c.args.session.now.session in
    let entered = c.admit.new.session.session in
    let new = c.finish_own.new.session.session in
    let ready = c.args.ready.now in
    is_finished g.N.Name.engine old entered new ready c.in-Free.ticket c.run_at.new.reply c.of-released.result
    (subst (λ (t : ℕ). SawOwn old entered ready t) c.in-Free.ensures.seat.0 c.in-Free.ensures.answer.0) c.in-Free.ensures.given c.finish_own.ensures.session.1 c.finish_own.ensures.given c.finish_own.ensures.reply
    (ap (λ (d : DoneShown). d.pass.ticket) c.of-released.ensures ∙ c.run_at.ensures.same.ticket ∙ c.in-Free.ensures.seat.0)
    (ap (λ (d : DoneShown). d.reply) c.of-released.ensures)

pub returns-in-Blocked-clause-answer : goal.returns-in-Blocked-clause-answer
returns-in-Blocked-clause-answer g c =
    is_made g.N.Name.engine c.args.session.now.session c.admit.new.session.session c.reply_of.new.session.session c.args.ready.now c.in-Blocked.ticket c.reply_of.result
    c.in-Blocked.ensures.answer.0 c.in-Blocked.ensures.given c.reply_of.ensures.session.1 c.reply_of.ensures.given c.reply_of.ensures.reply
