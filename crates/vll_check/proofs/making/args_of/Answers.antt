use Rattle.std.proofs.Common.{◌∙◌, ap, set, get_or, refl, arith}
use Rattle.vll_check.proofs.Common.{MOST_ARGS}
use Rattle.vll_check.proofs.ShortLists.{laid-next}
use Rattle.vll_check.proofs.making.args_of.Goals as goal

pub loop-i-preserved : goal.loop-i-preserved
loop-i-preserved c =
    let args = c.args.args.now in
    let i = c.loop-i.i in
    ap (λ places. set places i (get_or args i 0)) c.loop-i.invariant ∙ laid-next MOST_ARGS args i (get_or args i 0) (omega arith) (omega arith) refl
