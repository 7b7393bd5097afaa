use Rattle.std.proofs.Common.{[], ◌∷◌, ◌++◌, ◌∙◌, ap}
use Rattle.vll_counters.specs.Shown.{PassShown}
use Rattle.vll_queue.specs.Admission.{begun}
use Rattle.vll_engine.proofs.Onto.{one_more}
use Rattle.vll_engine.proofs.passes.Passes.push_admitted.Goals as goal

pub invariant_of-self : goal.invariant_of-self
invariant_of-self g c =
    one_more g.N.Name.engine c.self.inside.items.items c.args.self.now c.push_reserved.new.self.items c.in-Free.seat _ _ _ c.self.invariant c.self.view_is c.requires.room (c.requires.fresh c.in-Free.seat (ap begun c.in-Free.is))
    (c.push_reserved.ensures.items ∙ ap (λ (p : PassShown). c.self.inside.items.items ++ p ∷ []) c.of.ensures) c.push_reserved.ensures.capacity
