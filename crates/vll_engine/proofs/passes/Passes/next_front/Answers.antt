use Rattle.vll_engine.proofs.Onto.{one_more}
use Rattle.vll_engine.proofs.passes.Passes.next_front.Goals as goal

pub invariant_of-self : goal.invariant_of-self
invariant_of-self g c =
    one_more g.N.Name.engine c.self.inside.items.items c.args.self.now c.push_pass.new.passes.items c.in-Some.seat _ _ _ c.self.invariant c.self.view_is c.requires.room c.in-Some.ensures.pass c.push_pass.ensures.more c.push_pass.ensures.room
