use Rattle.vll_core.proofs.machine.Machine.front.Given.{Over}
use Rattle.std.proofs.Common.{◌≡◌, ◌∙◌, sym, ap, subst}
use Rattle.vll_core.proofs.Common.{started_if}
use Rattle.vll_core.specs.declared.event.Event.TheVariants as event
use Rattle.vll_core.proofs.Waking.{Wakes, wakes_front, refused_wake, taken_wake, core_woken, woken_shown}
use Rattle.vll_core.proofs.MachineSteps.{closed_turn, refused_told, taken_told}
use Rattle.vll_core.proofs.machine.Machine.front.Goals.{in-Some, in-None}
use Rattle.vll_core.proofs.machine.Machine.front.Goals as goal

-- the event wakes the ticket that the queue finds
wakes : (g : Over) (c : goal.Joined-front g) → Wakes g.H.Place.place_of c.self.inside event.Front c.front.result
wakes g c =
    subst (Wakes g.H.Place.place_of c.self.inside event.Front) (sym c.front.ensures.ticket)
    (wakes_front c.self.inside c.self.invariant (closed_turn _ _ c.is_some.ensures c.if-is_some.false))

-- and starts it
starts : (g : Over) (c : goal.Joined-front g) → c.front.new.self ≡ started_if c.self.inside.queue c.front.result
starts g c = c.front.ensures.fronted ∙ ap (started_if c.self.inside.queue) (sym c.front.ensures.ticket)

pub invariant_of-self : goal.invariant_of-self
invariant_of-self g c = core_woken c.self.inside event.Front _ _ c.self.invariant (wakes g c) (starts g c)

pub returns-clause-answer : goal.returns-clause-answer
returns-clause-answer g c =
    elim c.match-front.branch [
      | in-Some w ↦
          w.result-is ∙ taken_told c.self.inside _ _ _ _ c.self.view_is (taken_wake c.self.inside event.Front _ _ (wakes g c) w.in-Some.is)
      | in-None w ↦
          w.result-is ∙ refused_told c.self.inside _ _ _ c.self.view_is (refused_wake c.self.inside event.Front _ (wakes g c) w.in-None.is)
    ]

pub returns-clause-state : goal.returns-clause-state
returns-clause-state g c = woken_shown c.self.inside _ event.Front _ _ c.self.view_is (wakes g c) (starts g c)
