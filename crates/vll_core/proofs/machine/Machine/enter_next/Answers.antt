use Rattle.vll_core.proofs.machine.Machine.enter_next.Given.{Over}
use Rattle.std.proofs.Common.{◌≡◌, ◌<◌, arith, length, refl, Some, slice_get, subst}
use Rattle.vll_core.proofs.Common.{slice_get_read, slice_get_within, IsReady}
use Rattle.vll_core.proofs.Entering.{CanEnter, StandsNext, stands_next, next_seen, ready_seen, client_kept, client_there, place_fits, room_inside, taken_enter, core_enter}
use Rattle.vll_core.proofs.MachineSteps.{closed_turn, library_same, taken_shown}
use Rattle.vll_core.proofs.machine.Machine.enter_next.Goals.{In-Some, In-Some-ready, After-index_mut}
use Rattle.vll_core.proofs.machine.Machine.enter_next.Goals as goal

stands : (g : Over) (c : In-Some g) → StandsNext c.self.inside c.args.client c.in-Some.call
stands g c = stands_next c.self.inside _ _ c.self.invariant (next_seen c.self.inside _ _ _ c.self.view_is c.in-Some.ensures.call)

within : (g : Over) (c : In-Some g) → c.args.client < length c.self.inside.next.items
within g c = let s = stands g c in slice_get_within _ _ _ s.has

pub index_mut-requires : goal.index_mut-requires
index_mut-requires g c = omega (arith, within g (goal.at.index_mut-requires g c).In-Some, c.self.inside.next.ok.0)

place : (g : Over) (c : After-index_mut g) → c.args.client < length c.self.inside.next.items → slice_get c.self.inside.next.items c.args.client ≡ Some c.index_mut.result.now
place g c low = slice_get_read _ _ _ _ refl low c.index_mut.ensures.value

pub overflow_add-index_mut : goal.overflow_add-index_mut
overflow_add-index_mut g c =
    let at = goal.at.overflow_add-index_mut g c in
    omega (arith, place_fits _ _ _ _ (stands g at.In-Some) (place g at.After-index_mut (within g at.In-Some)))

pub index_mut-requires-2 : goal.index_mut-requires-2
index_mut-requires-2 g c =
    let s = stands g (goal.at.index_mut-requires-2 g c).In-Some in
    omega (arith, client_kept c.self.inside _ _ c.self.invariant refl (client_there c.self.inside _ _ c.self.invariant s), c.self.inside.kept.ok.0)

can_enter : (g : Over) (c : After-index_mut g) → c.args.client < length c.self.inside.next.items → CanEnter g.H.Place.place_of c.self.inside c.args.client c.index_mut.result.now c.in-Some.call c.in-Some-ready.call
can_enter g c low = record {
  core = c.self.invariant;
  has = record { closed = closed_turn _ _ c.is_some.ensures c.if-is_some.false; next = next_seen c.self.inside _ _ _ c.self.view_is c.in-Some.ensures.call };
  place = place g c low;
  room = room_inside c.self.inside _ _ _ c.self.view_is c.in_ok-room.was (record { spent = c.room.ensures.spent; busy = c.room.ensures.busy; ok = c.room.ensures.ok });
  enters = ready_seen c.self.inside _ _ _ _ c.self.view_is c.in-Some-ready.ensures.call;
}

pub returns-clause-state : goal.returns-clause-state
returns-clause-state g c =
    let at = goal.at.returns-clause-state g c in
    taken_shown {places = g.H.Place.place_of} _ _ _ _ _ c.self.view_is (taken_enter _ _ _ _ _ (can_enter g at.After-index_mut (within g at.In-Some)))

pub invariant_of-self : goal.invariant_of-self
invariant_of-self g c =
    let at = goal.at.invariant_of-self g c in
    core_enter _ _ _ _ _ (can_enter g at.After-index_mut (within g at.In-Some))
    (subst (λ library. IsReady library c.in-Some-ready.call) (library_same c.self.inside _ _ c.self.invariant c.self.view_is c.requires.same) c.in-Some-ready.ensures.ready)
