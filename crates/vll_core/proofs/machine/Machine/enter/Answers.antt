use Rattle.std.proofs.Common.{refl, subst}
use Rattle.vll_core.proofs.Common.{IsReady}
use Rattle.vll_core.proofs.MachineSteps.{closed_turn, library_same}
use Rattle.vll_core.proofs.Entering.{room_inside, core_handed}
use Rattle.vll_core.proofs.machine.Machine.enter.Goals as goal

pub invariant_of-self : goal.invariant_of-self
invariant_of-self g c =
    core_handed _ _ _ c.self.invariant (closed_turn _ _ c.is_some.ensures c.if-is_some.false)
    (subst (λ library. IsReady library c.args.call.now) (library_same c.self.inside _ _ c.self.invariant c.self.view_is refl) c.requires.ready)
    (room_inside c.self.inside _ _ _ c.self.view_is c.in_ok-room.was (record { spent = c.room.ensures.spent; busy = c.room.ensures.busy; ok = c.room.ensures.ok }))
