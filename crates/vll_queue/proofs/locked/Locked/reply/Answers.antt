use Rattle.std.proofs.Common.{◌≡◌, Some, slice_get, sym, ap, ◌∙◌, subst, rules}
use Rattle.vll_counters.specs.Shown.{SessionShown, WordsShown, queue_view}
use Rattle.vll_counters.specs.Told.{KnowsSession}
use Rattle.vll_queue.specs.Sessions.{SawOthers}
use Rattle.vll_queue.proofs.Learning.{given_out, reply_seen, reply_stays, reply_at, left_is, left_seen, left_others}
use Rattle.vll_queue.proofs.locked.Locked.reply.Goals as goal

pub give_session-requires-clause-gone : goal.give_session-requires-clause-gone
give_session-requires-clause-gone g c =
    let come = c.in-Some.seat.session in
    let asked = c.reply_of-reply in
    let there = reply_at g.N.Name.engine g.H.Place.place_of c.self.inside.seat c.self.inside.queue c.args.self.now c.args.ticket asked.result c.self.invariant c.self.view_is asked.ensures.kept asked.ensures.reply in
    given_out c.self.inside.seat c.join_session.new.queue _ come c.args.ticket asked.result c.is_some.result c.then_some-given.result there c.join_session.ensures.queue
    c.is_some.ensures c.then_some-given.ensures

pub returns-clause-reply : goal.returns-clause-reply
returns-clause-reply g c =
    let come = c.in-Some.seat.session in
    let asked = c.reply_of-reply in
    let there = reply_at g.N.Name.engine g.H.Place.place_of c.self.inside.seat c.self.inside.queue c.args.self.now c.args.ticket asked.result c.self.invariant c.self.view_is asked.ensures.kept asked.ensures.reply in
    let knows = subst (λ (w : WordsShown). KnowsSession w.base (queue_view c.self.inside.seat) come) c.requires.words c.join_session.ensures.session in
    let seen = left_seen c.self.inside.seat c.join_session.new.queue _ come c.then_some-given.result c.give_session.result c.join_session.ensures.queue c.give_session.ensures.session in
    reply_seen g.N.Name.engine.base c.self.inside.seat c.give_session.result.session.seen c.args.ticket asked.result knows.replied there seen

pub returns-clause-ever : goal.returns-clause-ever
returns-clause-ever g c k at =
    let come = c.in-Some.seat.session in
    let own : c.in-Some.seat ≡ c.args.session.now = search rules in
    let asked = c.reply_of-reply in
    let there = reply_at g.N.Name.engine g.H.Place.place_of c.self.inside.seat c.self.inside.queue c.args.self.now c.args.ticket asked.result c.self.invariant c.self.view_is asked.ensures.kept asked.ensures.reply in
    reply_stays c.args.words.now.base c.self.inside.seat come c.args.ticket k asked.result c.join_session.ensures.session there (subst (λ (s : SessionShown). slice_get s.session.given k ≡ Some c.args.ticket) (sym own) at)

pub returns-clause-session : goal.returns-clause-session
returns-clause-session g c =
    let come = c.in-Some.seat.session in
    let own : c.in-Some.seat ≡ c.args.session.now = search rules in
    let left = left_is c.self.inside.seat c.join_session.new.queue _ come c.then_some-given.result c.give_session.result c.join_session.ensures.queue c.give_session.ensures.session in (
      ap (λ (s : SessionShown). s.table) left ∙ c.self.invariant.same ∙ sym c.requires.session,
      subst (λ (s : SessionShown). SawOthers s.session c.give_session.result.session) own (left_others c.args.words.now.base c.self.inside.seat c.join_session.new.queue _ come c.then_some-given.result c.give_session.result c.join_session.ensures.session c.join_session.ensures.queue
          c.give_session.ensures.session),
    )
