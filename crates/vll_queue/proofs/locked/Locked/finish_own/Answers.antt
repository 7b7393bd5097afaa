-- The call is gone and its line has its reply, so the session is given it.
use Rattle.std.proofs.Common.{◌≡◌, Some, sym, ap, ◌∙◌, subst, rules}
use Rattle.vll_counters.specs.Shown.{SessionShown, WordsShown, queue_view}
use Rattle.vll_counters.specs.Told.{KnowsSession}
use Rattle.vll_queue.specs.Sessions.{SawOthers}
use Rattle.vll_queue.proofs.Learning.{answered_at, answered_out, answered_seen, left_is, left_seen, left_others}
use Rattle.vll_queue.proofs.locked.Locked.finish_own.Goals as goal

pub give_session-requires-clause-gone : goal.give_session-requires-clause-gone
give_session-requires-clause-gone g c =
    let come = c.in-Some.seat.session in
    let done = c.finish-ticket in
    let told = answered_at g.N.Name.engine g.H.Place.place_of c.self.inside.seat c.self.inside.queue done.new.self c.args.released.pass.ticket done.result c.args.released.reply c.self.invariant c.self.view_is done.ensures.done done.ensures.ticket in
    answered_out c.self.inside.seat c.join_session.new.queue _ come done.result c.args.released.reply told c.join_session.ensures.queue

pub returns-clause-reply : goal.returns-clause-reply
returns-clause-reply g c =
    let come = c.in-Some.seat.session in
    let done = c.finish-ticket in
    let told = answered_at g.N.Name.engine g.H.Place.place_of c.self.inside.seat c.self.inside.queue done.new.self c.args.released.pass.ticket done.result c.args.released.reply c.self.invariant c.self.view_is done.ensures.done done.ensures.ticket in
    let knows = subst (λ (w : WordsShown). KnowsSession w.base (queue_view c.self.inside.seat) come) c.requires.words c.join_session.ensures.session in
    let seen = left_seen c.self.inside.seat c.join_session.new.queue _ come (Some done.result) c.give_session.result c.join_session.ensures.queue c.give_session.ensures.session in
    answered_seen g.N.Name.engine.base c.self.inside.seat c.give_session.result.session.seen c.args.released.pass.ticket done.result c.args.released.reply knows.replied told done.ensures.ticket seen

pub returns-clause-session : goal.returns-clause-session
returns-clause-session g c =
    let come = c.in-Some.seat.session in
    let own : c.in-Some.seat ≡ c.args.session.now = search rules in
    let given = Some c.finish-ticket.result in
    let left = left_is c.self.inside.seat c.join_session.new.queue _ come given c.give_session.result c.join_session.ensures.queue c.give_session.ensures.session in (
      ap (λ (s : SessionShown). s.table) left ∙ c.self.invariant.same ∙ sym c.requires.session,
      subst (λ (s : SessionShown). SawOthers s.session c.give_session.result.session) own (left_others c.args.words.now.base c.self.inside.seat c.join_session.new.queue _ come given c.give_session.result c.join_session.ensures.session c.join_session.ensures.queue
          c.give_session.ensures.session),
    )
