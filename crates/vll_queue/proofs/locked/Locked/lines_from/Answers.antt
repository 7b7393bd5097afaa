use Rattle.std.proofs.Common.{◌≡◌, ◌+◌, ◌-◌, Some, None, slice_get, sym, ap, ◌∙◌, ◌≤◌, length, vec_capacity, subst, arith, rules}
use Rattle.vll_counters.specs.Shown.{SessionShown, WordsShown, queue_view}
use Rattle.vll_counters.specs.Told.{KnowsSession}
use Rattle.vll_queue.specs.Private.Kept.{IsKept}
use Rattle.vll_queue.specs.Sessions.{SawOthers}
use Rattle.vll_queue.proofs.Collecting.{appended, filled}
use Rattle.vll_queue.proofs.Learning.{left_is, left_seen, left_others}
use Rattle.vll_queue.proofs.locked.Locked.lines_from.Goals as goal

pub returns-clause-lines : goal.returns-clause-lines
returns-clause-lines g c =
    let come = c.in-Some.seat.session in
    let e = g.N.Name.engine in
    let kept = subst (IsKept e g.H.Place.place_of c.self.inside.seat) c.self.view_is c.self.invariant in
    let knows = subst (λ (w : WordsShown). KnowsSession w.base (queue_view c.self.inside.seat) come) c.requires.words c.join_session.ensures.session in
    let seen = left_seen c.self.inside.seat c.join_session.new.queue _ come None c.give_session.result c.join_session.ensures.queue c.give_session.ensures.session in
    appended e g.H.Place.place_of c.self.inside.seat c.args.self.now c.give_session.result.session.seen c.args.from _ c.args.lines.now.items c.push_lines.new.lines.items kept c.push_lines.ensures.kept knows.replied seen
    c.push_lines.ensures.lines

pub returns-clause-ever : goal.returns-clause-ever
returns-clause-ever g c k at =
    let come = c.in-Some.seat.session in
    let own : c.in-Some.seat ≡ c.args.session.now = search rules in
    let e = g.N.Name.engine in
    let kept = subst (IsKept e g.H.Place.place_of c.self.inside.seat) c.self.view_is c.self.invariant in
    let knows = subst (λ (w : WordsShown). KnowsSession w.base (queue_view c.self.inside.seat) come) c.requires.words c.join_session.ensures.session in
    let count = c.args.lines.now.ok.0 in
    let fits = c.args.lines.now.ok.1 in
    let within : length c.args.lines.now.items ≤ vec_capacity c.args.lines.now = omega (arith, count, fits) in
    filled e g.H.Place.place_of c.self.inside.seat c.args.self.now come c.args.from k (vec_capacity c.args.lines.now) c.args.lines.now.items c.push_lines.new.lines.items kept c.push_lines.ensures.kept knows within
    c.push_lines.ensures.lines (subst (λ (s : SessionShown). slice_get s.session.given k ≡ Some (c.args.from + (length c.push_lines.new.lines.items - length c.args.lines.now.items))) (sym own) at) ∙ sym c.push_lines.ensures.room

pub returns-clause-given : goal.returns-clause-given
returns-clause-given g c =
    let come = c.in-Some.seat.session in
    let own : c.in-Some.seat ≡ c.args.session.now = search rules in
    ap (λ (s : SessionShown). s.session.given) (left_is c.self.inside.seat c.join_session.new.queue _ come None c.give_session.result c.join_session.ensures.queue c.give_session.ensures.session) ∙ ap (λ (s : SessionShown). s.session.given) own

pub returns-clause-session : goal.returns-clause-session
returns-clause-session g c =
    let come = c.in-Some.seat.session in
    let own : c.in-Some.seat ≡ c.args.session.now = search rules in
    let left = left_is c.self.inside.seat c.join_session.new.queue _ come None c.give_session.result c.join_session.ensures.queue c.give_session.ensures.session in (
      ap (λ (s : SessionShown). s.table) left ∙ c.self.invariant.same ∙ sym c.requires.session,
      subst (λ (s : SessionShown). SawOthers s.session c.give_session.result.session) own (left_others c.args.words.now.base c.self.inside.seat c.join_session.new.queue _ come None c.give_session.result c.join_session.ensures.session c.join_session.ensures.queue c.give_session.ensures.session),
    )
