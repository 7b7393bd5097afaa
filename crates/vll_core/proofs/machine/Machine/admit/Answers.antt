use Rattle.vll_core.proofs.machine.Machine.admit.Given.{Over}
use Rattle.std.proofs.Common.{◌≡◌, ◌∙◌, sym, ap, subst, arith, refl, length, None, Ok}
use Rattle.vll_core.proofs.Common.{Queued, shown, IsMachine}
use Rattle.vll_core.proofs.Admitting.{HasWork, ticket_seen, turn_procedure, made_among, turn_room, turn_idle, taken_admit, core_admit}
use Rattle.vll_core.proofs.MachineSteps.{taken_told, taken_shown}
use Rattle.vll_core.proofs.machine.Machine.admit.Goals.{then-turn, else-turn}
use Rattle.vll_core.proofs.machine.Machine.admit.Goals as goal

pub new-requires-clause-formed : goal.new-requires-clause-formed
new-requires-clause-formed g c =
    (turn_procedure _ _ _ _ _ _ c.self.invariant c.self.view_is c.requires.same c.in-Some.is c.proc.ensures.procedure c.unwrap-procedure.ensures).formed

pub new-requires-clause-made : goal.new-requires-clause-made
new-requires-clause-made g c =
    (_, (turn_procedure _ _ _ _ _ _ c.self.invariant c.self.view_is c.requires.same c.in-Some.is c.proc.ensures.procedure c.unwrap-procedure.ensures).made)

pub push_reserved-requires : goal.push_reserved-requires
push_reserved-requires g c =
    omega (arith, turn_room _ _ c.self.invariant c.in-Some.is, c.self.invariant.works, c.self.invariant.room)

pub admit-ticket-requires-clause-unspent : goal.admit-ticket-requires-clause-unspent
admit-ticket-requires-clause-unspent g c = turn_room _ _ c.self.invariant c.in-Some.is

pub admit-ticket-requires-clause-idle : goal.admit-ticket-requires-clause-idle
admit-ticket-requires-clause-idle g c = turn_idle _ _ c.self.invariant c.in-Some.is

has_work : (g : Over) (c : goal.Joined-turn g) → HasWork c.self.inside c.in-Some.turn c.push_reserved.new.self c.new.result
has_work g c =
    let p = turn_procedure _ _ _ _ _ _ c.self.invariant c.self.view_is c.requires.same c.in-Some.is c.proc.ensures.procedure c.unwrap-procedure.ensures in
    record {
      opened = c.in-Some.is;
      asked = omega (arith, c.if-turn-len.false, c.len.ensures.value);
      pushed = c.push_reserved.ensures.items;
      room = c.push_reserved.ensures.capacity;
      loads = c.new.ensures.loads;
      stores = c.new.ensures.stores;
      releases = c.new.ensures.releases;
      at_work = λ records long within. c.new.ensures.at_work _ records p.found (made_among _ _ _ p records long) within;
    }

pub invariant_of-self : goal.invariant_of-self
invariant_of-self g c =
    subst (λ (q : Queued _). IsMachine g.H.Place.place_of (record c.self.inside { queue = q; execution = c.push_reserved.new.self; turn = None })) (sym c.admit-ticket.ensures.entered)
    (core_admit _ _ _ _ c.self.invariant (has_work g c))

pub returns-clause-answer : goal.returns-clause-answer
returns-clause-answer g c =
    let seen : c.if-turn.result ≡ Ok (ticket_seen c.in-Some.turn.granted (length c.self.inside.queue.entries)) = elim c.if-turn.branch [
      | then-turn w ↦ rw (w.result-is, c.admit-ticket.ensures.ticket, w.if-turn.true) refl
      | else-turn w ↦ rw (w.result-is, c.admit-ticket.ensures.ticket, w.if-turn.false) refl
    ] in
    seen ∙ taken_told c.self.inside _ _ _ _ c.self.view_is (taken_admit _ _ _ _ c.self.invariant (has_work g c))

pub returns-clause-state : goal.returns-clause-state
returns-clause-state g c =
    ap (λ (q : Queued _). shown (record c.self.inside { queue = q; execution = c.push_reserved.new.self; turn = None })) c.admit-ticket.ensures.entered
    ∙ taken_shown c.self.inside _ _ _ _ c.self.view_is (taken_admit _ _ _ _ c.self.invariant (has_work g c))
