use Rattle.std.proofs.Common.{◌<◌, ◌^◌, ◌∙◌, ap, is_some, Option, subst, sym}
use Rattle.vll_core.proofs.Common.{IsAtEnd, IsNext, left, turn_of, Shown, opening_of, option_map, running, Entered, Turn}
use Rattle.vll_core.proofs.Ending.{seen_next, none_kept, turn_goes, front_next, ends_here, few_left}
use Rattle.vll_core.proofs.machine.Machine.next_event.Goals.{in-Some-running_call, in-None}
use Rattle.vll_core.proofs.machine.Machine.next_event.Goals as goal

pub returns-in-Some-clause-next : goal.returns-in-Some-clause-next
returns-in-Some-clause-next g c =
    subst (IsNext (opening_of g.H.Place.place_of c.args.self.now) c.args.self.now.state) (sym c.turn_event.ensures)
    (turn_goes (opening_of g.H.Place.place_of c.args.self.now) c.args.self.now.state _ (ap (λ (x : Shown _). x.state.turn) (sym c.self.view_is) ∙ ap turn_of c.in-Some.is))

pub returns-in-Some-clause-few : goal.returns-in-Some-clause-few
returns-in-Some-clause-few g c = subst (λ (x : Shown _). left x.state < 2 ^ 32) c.self.view_is (few_left g.H.Place.place_of c.self.inside c.self.invariant)

pub returns-in_err-ticket-clause-end : goal.returns-in_err-ticket-clause-end
returns-in_err-ticket-clause-end g c = λ _.
    subst (λ (x : Shown _). IsAtEnd x.base x.state) c.self.view_is
    (ends_here c.self.inside c.self.invariant (none_kept c.self.inside.turn c.in_default.not-Some) (sym c.lowest.ensures ∙ c.in_err-ticket.was))

pub returns-in_err-ticket-clause-few : goal.returns-in_err-ticket-clause-few
returns-in_err-ticket-clause-few g c = subst (λ (x : Shown _). left x.state < 2 ^ 32) c.self.view_is (few_left g.H.Place.place_of c.self.inside c.self.invariant)

pub returns-clause-next : goal.returns-clause-next
returns-clause-next g c =
    elim c.match-running_call.branch [
      | in-Some-running_call w ↦ subst (IsNext (opening_of g.H.Place.place_of c.args.self.now) c.args.self.now.state) (sym w.result-is) w.next_step.ensures
      | in-None w ↦
          subst (IsNext (opening_of g.H.Place.place_of c.args.self.now) c.args.self.now.state) (sym w.result-is)
          (seen_next g.H.Place.place_of c.self.inside _ _ c.self.view_is
          (front_next g.H.Place.place_of c.self.inside _ c.self.invariant (ap (λ (x : Option Turn). is_some x) (none_kept c.self.inside.turn c.in_default.not-Some)) (sym c.lowest.ensures ∙ c.in_ok-ticket.was)
          (sym w.in-None.is ∙ (c.running_call.ensures ∙ ap (λ (x : Shown _). option_map (λ (e : Entered). e.call) (running x.state c.in_ok-ticket.ticket)) (sym c.self.view_is)))))
    ]

pub returns-clause-few : goal.returns-clause-few
returns-clause-few g c = subst (λ (x : Shown _). left x.state < 2 ^ 32) c.self.view_is (few_left g.H.Place.place_of c.self.inside c.self.invariant)
