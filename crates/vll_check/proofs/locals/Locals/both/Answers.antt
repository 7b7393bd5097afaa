use Rattle.std.proofs.Common.{◌≡◌, length, ap, sym, ◌∙◌, arith}
use Rattle.vll_check.proofs.Common.{MOST_LOCALS}
use Rattle.vll_check.proofs.Both.{IsBothBelow-step, IsBothBelow-end}
use Rattle.vll_check.proofs.locals.Locals.both.Goals as goal

pub loop-i-preserved : goal.loop-i-preserved
loop-i-preserved c =
    let self_long : length c.args.self.now ≡ MOST_LOCALS = ap length (sym c.self.view_is) ∙ c.self.told in
    let other_long : length c.args.other.now ≡ MOST_LOCALS = ap length (sym c.other.view_is) ∙ c.other.told in
    rw c.other.view_is (IsBothBelow-step c.args.self.now c.args.other.now c.loop-i.set c.loop-i.i (self_long ∙ sym other_long) (omega arith) c.loop-i.invariant)

pub returns : goal.returns
returns c =
    let self_long : length c.args.self.now ≡ MOST_LOCALS = ap length (sym c.self.view_is) ∙ c.self.told in
    let other_long : length c.args.other.now ≡ MOST_LOCALS = ap length (sym c.other.view_is) ∙ c.other.told in
    IsBothBelow-end c.args.self.now c.args.other.now c.loop-i.set c.loop-i.i (self_long ∙ sym other_long) (omega arith) c.loop-i.invariant
