use Rattle.std.proofs.Common.{◌∙◌, ap, set, arith}
use Rattle.vll_check.proofs.Common.{MOST_CLAIMS, place_for, cell_of}
use Rattle.vll_check.proofs.ShortLists.{laid-mapped}
use Rattle.vll_check.proofs.making.cells_of.Goals as goal

pub loop-i-preserved : goal.loop-i-preserved
loop-i-preserved c =
    let claims = c.args.claims.now in
    let naming = c.args.naming in
    let cell = c.place_for.ensures ∙ ap (place_for claims) c.record_of.ensures in
    ap (λ cells. set cells c.loop-i.i c.place_for.result) c.loop-i.invariant
    ∙ laid-mapped (cell_of naming.records claims naming.args.now naming.found) MOST_CLAIMS c.args.keys.now c.loop-i.i _ c.place_for.result (omega arith) (omega arith) cell
