use Rattle.std.proofs.Common.{length, ◌∙◌, ap, sym, Bool, refl, arith, if◌then◌else◌}
use Rattle.vll_core.proofs.Common.{true≢false, is_waiting, is_gone, Running, Waiting}
use Rattle.vll_core.proofs.Entries.{shown_length, shown_room, shown_idle}
use Rattle.vll_core.proofs.QueueChanges.{IsPushed, pushed_next, kept_counted, shown_entered}
use Rattle.vll_core.proofs.queue.Queue.admit.Given.{Over}
use Rattle.vll_core.proofs.queue.Queue.admit.Goals.{then-free, else-free}
use Rattle.vll_core.proofs.queue.Queue.admit.Goals as goal

pub push_reserved-requires : goal.push_reserved-requires
push_reserved-requires g c =
    omega (arith, shown_room _ _ c.self.invariant c.self.view_is c.requires.unspent, c.self.invariant.room_for_lines, c.self.invariant.as_many)

pub push_reserved-requires-2 : goal.push_reserved-requires-2
push_reserved-requires-2 g c =
    elim c.if-free.branch [
      | then-free w ↦ rw w.self-inside-is (omega (arith, shown_room _ _ c.self.invariant c.self.view_is c.requires.unspent, c.self.invariant.room))
      | else-free w ↦ rw w.self-inside-is (omega (arith, shown_room _ _ c.self.invariant c.self.view_is c.requires.unspent, c.self.invariant.room))
    ]

pub push-requires : goal.push-requires
push-requires g c =
    elim c.if-free.branch [
      | then-free w ↦ record { room = rw w.self-inside-is (omega (arith, shown_room _ _ c.self.invariant c.self.view_is c.requires.unspent, c.self.invariant.window.tickets.few, c.self.invariant.room_in_window)) }
      | else-free w ↦ record { room = rw w.self-inside-is (omega (arith, shown_room _ _ c.self.invariant c.self.view_is c.requires.unspent, c.self.invariant.window.tickets.few, c.self.invariant.room_in_window)) }
    ]

-- the ticket that is put into the window is the next one
pushed : (g : Over) (c : goal.After-push g) → IsPushed c.if-free.self-inside.window c.push.new.self (length c.self.inside.statuses.items)
pushed g c =
    pushed_next _ _ c.len.result _ c.push.ensures.tickets c.push.ensures.first c.push.ensures.room (omega (arith, c.self.invariant.as_many, c.len.ensures))

pub invariant_of-self : goal.invariant_of-self
invariant_of-self g c =
    elim c.if-free.branch [
      | then-free w ↦
          kept_counted c.self.inside c.if-free.self-inside c.push_reserved-2.new.self c.push_reserved.new.self c.push.new.self _ _ _ _ _
          c.self.invariant (shown_room _ _ c.self.invariant c.self.view_is c.requires.unspent) (shown_idle _ _ c.self.invariant c.self.view_is c.requires.idle)
          w.self-inside-is c.push_reserved-2.ensures.items c.push_reserved-2.ensures.capacity
          c.push_reserved.ensures.items c.push_reserved.ensures.capacity (pushed g c) refl (ap is_gone w.status-is) (rw w.status-is (omega arith)) (rw w.status-is refl) (λ is_set. is_set) (λ _. ap is_waiting w.status-is)
      | else-free w ↦
          kept_counted c.self.inside c.if-free.self-inside c.push_reserved-2.new.self c.push_reserved.new.self c.push.new.self _ _ _ _ _
          c.self.invariant (shown_room _ _ c.self.invariant c.self.view_is c.requires.unspent) (shown_idle _ _ c.self.invariant c.self.view_is c.requires.idle)
          w.self-inside-is c.push_reserved-2.ensures.items c.push_reserved-2.ensures.capacity
          c.push_reserved.ensures.items c.push_reserved.ensures.capacity (pushed g c) refl (ap is_gone w.status-is) (rw w.status-is refl) (rw w.status-is (omega arith)) (λ is_set. absurd (true≢false (sym is_set))) (λ is_set. absurd (true≢false (sym is_set)))
    ]

pub returns-clause-ticket : goal.returns-clause-ticket
returns-clause-ticket g c =
    omega (arith, shown_length _ _ c.self.invariant c.self.view_is, c.self.invariant.as_many, c.len.ensures)

pub returns-clause-entered : goal.returns-clause-entered
returns-clause-entered g c =
    elim c.if-free.branch [
      | then-free w ↦
          shown_entered c.self.inside c.if-free.self-inside _ c.push_reserved-2.new.self c.push_reserved.new.self c.push.new.self _ _ _ _ _ _
          c.self.invariant c.self.view_is w.self-inside-is c.push_reserved.ensures.items c.push_reserved-2.ensures.items
          (w.status-is ∙ ap (λ (b : Bool). if b then Running else Waiting) (sym w.if-free.true))
      | else-free w ↦
          shown_entered c.self.inside c.if-free.self-inside _ c.push_reserved-2.new.self c.push_reserved.new.self c.push.new.self _ _ _ _ _ _
          c.self.invariant c.self.view_is w.self-inside-is c.push_reserved.ensures.items c.push_reserved-2.ensures.items
          (w.status-is ∙ ap (λ (b : Bool). if b then Running else Waiting) (sym w.if-free.false))
    ]
