use Rattle.std.proofs.Common.{◌≡◌, rules, ap, sym, subst, ◌∙◌}
use Rattle.vll_counters.specs.Shown.{PassShown, SessionShown, WordsShown}
use Rattle.vll_queue.specs.Headline.Sessions.{SawOwn}
use Rattle.vll_queue.specs.Looked.{IsLookedUp}
use Rattle.vll_queue.proofs.Entering.{claims_there, all_asked, entered_blocked, pass_given_seat, entered_free, kept_entered, entered_own, blocked_waits, pass_is, pass_for}
use Rattle.vll_queue.proofs.locked.Locked.admit.Goals as goal

pub request_all-free-requires-clause-there : goal.request_all-free-requires-clause-there
request_all-free-requires-clause-there g c = claims_there g.N.Name.engine c.args.words.now c.args.call.now c.requires.words c.requires.catalog c.requires.ready

-- the call is blocked

pub invariant_of-self : goal.invariant_of-self
invariant_of-self g c =
    let old = c.self.inside.seat in
    let come = c.in-Some.seat.session in
    let client = c.session.inside.client in
    let free = c.request_all-free.result in
    let left = c.give_session in
    let own : c.in-Some.seat ≡ c.args.session.now = search rules in
    let same : come.client ≡ client = search rules in
    let looked_up = subst (λ (s : SessionShown). IsLookedUp g.N.Name.engine s.session c.args.call.now) (sym own) c.requires.looked_up in
    let asked = all_asked old c.join_session.new.queue c.request_all-free.new.seat _ _ come client c.args.call.now free c.join_session.ensures.queue c.request_all-free.ensures.turn in
    let entered = entered_blocked old c.request_all-free.new.seat left.new.queue _ come client c.args.call.now free left.result asked left.ensures.queue left.ensures.session in
    kept_entered g.N.Name.engine g.H.Place.place_of c.args.words.now.base old left.new.queue c.self.inside.queue c.admit-ticket.new.self come client c.args.call.now free left.result
    c.self.invariant c.join_session.ensures.session entered c.admit-ticket.ensures.entered same c.requires.ready looked_up

pub returns-then-not-free-clause-answer : goal.returns-then-not-free-clause-answer
returns-then-not-free-clause-answer g c =
    let old = c.self.inside.seat in
    let come = c.in-Some.seat.session in
    let client = c.session.inside.client in
    let free = c.request_all-free.result in
    let left = c.give_session in
    let own : c.in-Some.seat ≡ c.args.session.now = search rules in
    let same : come.client ≡ client = search rules in
    let asked = all_asked old c.join_session.new.queue c.request_all-free.new.seat _ _ come client c.args.call.now free c.join_session.ensures.queue c.request_all-free.ensures.turn in
    let entered = entered_blocked old c.request_all-free.new.seat left.new.queue _ come client c.args.call.now free left.result asked left.ensures.queue left.ensures.session in
    let saw = entered_own g.N.Name.engine g.H.Place.place_of c.args.words.now.base old left.new.queue c.self.inside.queue come client c.args.call.now free left.result c.admit-ticket.result
    c.self.invariant c.join_session.ensures.session entered same c.admit-ticket.ensures.ticket in (
      subst (λ (s : SessionShown). SawOwn s.session left.result.session c.args.call.now c.admit-ticket.result) own saw,
      blocked_waits old left.new.queue come client c.args.call.now free left.result entered c.if-not-free.true,
    )

-- the call is free

pub invariant_of-self-2 : goal.invariant_of-self-2
invariant_of-self-2 g c =
    let old = c.self.inside.seat in
    let come = c.in-Some.seat.session in
    let client = c.session.inside.client in
    let free = c.request_all-free.result in
    let pass = c.give_pass-pass in
    let left = c.give_session-2 in
    let own : c.in-Some.seat ≡ c.args.session.now = search rules in
    let same : come.client ≡ client = search rules in
    let looked_up = subst (λ (s : SessionShown). IsLookedUp g.N.Name.engine s.session c.args.call.now) (sym own) c.requires.looked_up in
    let asked = all_asked old c.join_session.new.queue c.request_all-free.new.seat _ _ come client c.args.call.now free c.join_session.ensures.queue c.request_all-free.ensures.turn in
    let given = pass_given_seat old c.request_all-free.new.seat pass.new.queue _ come client c.args.call.now free c.admit-ticket.result asked pass.ensures.queue in
    let entered = entered_free old pass.new.queue left.new.queue _ come client c.args.call.now free left.result given left.ensures.queue left.ensures.session in
    kept_entered g.N.Name.engine g.H.Place.place_of c.args.words.now.base old left.new.queue c.self.inside.queue c.admit-ticket.new.self come client c.args.call.now free left.result
    c.self.invariant c.join_session.ensures.session entered c.admit-ticket.ensures.entered same c.requires.ready looked_up

pub returns-clause-answer : goal.returns-clause-answer
returns-clause-answer g c =
    let old = c.self.inside.seat in
    let come = c.in-Some.seat.session in
    let client = c.session.inside.client in
    let free = c.request_all-free.result in
    let pass = c.give_pass-pass in
    let left = c.give_session-2 in
    let own : c.in-Some.seat ≡ c.args.session.now = search rules in
    let same : come.client ≡ client = search rules in
    let looked_up = subst (λ (s : SessionShown). IsLookedUp g.N.Name.engine s.session c.args.call.now) (sym own) c.requires.looked_up in
    let asked = all_asked old c.join_session.new.queue c.request_all-free.new.seat _ _ come client c.args.call.now free c.join_session.ensures.queue c.request_all-free.ensures.turn in
    let given = pass_given_seat old c.request_all-free.new.seat pass.new.queue _ come client c.args.call.now free c.admit-ticket.result asked pass.ensures.queue in
    let entered = entered_free old pass.new.queue left.new.queue _ come client c.args.call.now free left.result given left.ensures.queue left.ensures.session in
    let is = pass_is g.N.Name.engine g.H.Place.place_of old pass.new.queue c.self.inside.queue _ _ come client c.args.call.now free c.admit-ticket.result c.args.words.now.table pass.result
    c.self.invariant given c.admit-ticket.ensures.ticket pass.ensures.pass in
    let saw = entered_own g.N.Name.engine g.H.Place.place_of c.args.words.now.base old left.new.queue c.self.inside.queue come client c.args.call.now free left.result pass.result.pass.ticket
    c.self.invariant c.join_session.ensures.session entered same (ap (λ (p : PassShown). p.pass.ticket) is ∙ c.admit-ticket.ensures.ticket) in (
      subst (λ (s : SessionShown). SawOwn s.session left.result.session c.args.call.now pass.result.pass.ticket) own saw,
      pass_for g.N.Name.engine g.H.Place.place_of c.args.words.now.base old left.new.queue c.self.inside.queue come client c.args.call.now free left.result _ c.admit-ticket.result c.args.words.now.table pass.result
          c.self.invariant c.join_session.ensures.session entered same c.requires.ready looked_up (ap (λ (w : WordsShown). w.table) c.requires.words) c.admit-ticket.ensures.ticket is,
    )

pub returns-clause-seat : goal.returns-clause-seat
returns-clause-seat g c =
    let old = c.self.inside.seat in
    let come = c.in-Some.seat.session in
    let client = c.session.inside.client in
    let free = c.request_all-free.result in
    let pass = c.give_pass-pass in
    let asked = all_asked old c.join_session.new.queue c.request_all-free.new.seat _ _ come client c.args.call.now free c.join_session.ensures.queue c.request_all-free.ensures.turn in
    let given = pass_given_seat old c.request_all-free.new.seat pass.new.queue _ come client c.args.call.now free c.admit-ticket.result asked pass.ensures.queue in
    let is = pass_is g.N.Name.engine g.H.Place.place_of old pass.new.queue c.self.inside.queue _ _ come client c.args.call.now free c.admit-ticket.result c.args.words.now.table pass.result
    c.self.invariant given c.admit-ticket.ensures.ticket pass.ensures.pass in
    (ap (λ (p : PassShown). p.pass.ticket) is, ap (λ (p : PassShown). p.pass.call) is)
