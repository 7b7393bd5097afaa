use Rattle.std.proofs.Common.{arith}
use Rattle.vll_core.proofs.Common.{slice_get_within}
use Rattle.vll_core.proofs.Entries.{Starts, starts, shown_status}
use Rattle.vll_core.proofs.QueueChanges.{kept_started, shown_started}
use Rattle.vll_core.proofs.queue.Queue.start.Goals as goal

pub index_mut-requires : goal.index_mut-requires
index_mut-requires g c =
    omega (arith, slice_get_within c.self.inside.statuses.items _ _ (shown_status _ _ _ _ _ c.self.invariant c.self.view_is c.ticket.view_is c.requires))

pub overflow_sub-self : goal.overflow_sub-self
overflow_sub-self g c =
    let change : Starts c.self.inside.statuses.items c.ticket.inside.0 =
    starts _ _ (shown_status _ _ _ _ _ c.self.invariant c.self.view_is c.ticket.view_is c.requires)
    in
    omega (arith, c.self.invariant.waiting, change.waiting)

pub invariant_of-self : goal.invariant_of-self
invariant_of-self g c =
    kept_started _ _ c.self.invariant (shown_status _ _ _ _ _ c.self.invariant c.self.view_is c.ticket.view_is c.requires)

pub returns : goal.returns
returns g c = shown_started _ _ _ _ c.self.invariant c.self.view_is c.ticket.view_is
