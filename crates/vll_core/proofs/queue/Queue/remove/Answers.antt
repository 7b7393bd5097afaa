use Rattle.std.proofs.Common.{◌<◌, List, length, vec_capacity, ap, subst, ◌∙◌, arith}
use Rattle.vll_core.proofs.Common.{slice_get_within, Status, Window, IsWindow}
use Rattle.vll_core.proofs.Entries.{Ends, ends, shown_status}
use Rattle.vll_core.proofs.QueueChanges.{kept_finished, shown_finished, window_finished, window_passed}
use Rattle.vll_core.proofs.queue.Queue.remove.Goals as goal

pub index_mut-requires : goal.index_mut-requires
index_mut-requires g c =
    omega (arith, slice_get_within c.self.inside.statuses.items _ _ (shown_status _ _ _ _ _ c.self.invariant c.self.view_is c.ticket.view_is c.requires))

pub index_mut-line-requires : goal.index_mut-line-requires
index_mut-line-requires g c =
    omega (arith, slice_get_within c.self.inside.statuses.items _ _ (shown_status _ _ _ _ _ c.self.invariant c.self.view_is c.ticket.view_is c.requires), c.self.invariant.as_many)

pub overflow_sub-self : goal.overflow_sub-self
overflow_sub-self g c =
    let change : Ends c.self.inside.statuses.items c.ticket.inside.0 =
    ends _ _ (shown_status _ _ _ _ _ c.self.invariant c.self.view_is c.ticket.view_is c.requires)
    in
    omega (arith, c.self.invariant.running, change.running)

pub skip_gone-requires : goal.skip_gone-requires
skip_gone-requires g c =
    let within : c.ticket.inside.0 < length c.self.inside.statuses.items =
    slice_get_within c.self.inside.statuses.items _ _ (shown_status _ _ _ _ _ c.self.invariant c.self.view_is c.ticket.view_is c.requires)
    in
    let passes = window_finished c.self.inside.statuses.items c.self.inside.window c.ticket.inside.0 c.self.invariant.window within in
    record { below = rw c.deref.ensures.value passes.below; gone = rw c.deref.ensures.value passes.gone }

pub shrink-requires : goal.shrink-requires
shrink-requires g c =
    let within : c.ticket.inside.0 < length c.self.inside.statuses.items =
    slice_get_within c.self.inside.statuses.items _ _ (shown_status _ _ _ _ _ c.self.invariant c.self.view_is c.ticket.view_is c.requires)
    in
    rw c.deref-2.ensures.value
    (window_passed c.self.inside.statuses.items _ c.self.inside.window _ c.ticket.inside.0 c.self.invariant.window within c.deref.ensures.value c.skip_gone.ensures)

pub invariant_of-self : goal.invariant_of-self
invariant_of-self g c =
    kept_finished c.self.inside c.shrink.new.self c.ticket.inside.0 c.args.reply.now c.index_mut-line.result.now c.self.invariant
    (shown_status _ _ _ _ _ c.self.invariant c.self.view_is c.ticket.view_is c.requires) c.index_mut-line.ensures.value
    (subst (λ (ss : List Status). IsWindow ss c.shrink.new.self) c.deref-2.ensures.value c.shrink.ensures.kept)
    (c.shrink.ensures.room ∙ ap (λ (w : Window). vec_capacity w.tickets) c.skip_gone.ensures)

pub returns : goal.returns
returns g c =
    shown_finished _ _ _ _ _ _ c.self.invariant c.self.view_is c.ticket.view_is c.index_mut-line.ensures.value
