use Rattle.std.proofs.Common.{◌≤◌, arith, rules}
use Rattle.vll_scenario.specs.declared.limits.TheConstants.{MOST_BYTES}
use Rattle.vll_scenario.proofs.Sizes.{index-within}
use Rattle.vll_scenario.proofs.reading.shape.list_in.Goals as goal

pub overflow_cast-index : goal.overflow_cast-index
overflow_cast-index g c =
    let fault = rw (c.in-Err-At.is, c.in-Err-At.field-0-is) at c.list_of.ensures in
    let few : c.in-Err-At.index ≤ MOST_BYTES = index-within (g.T.Reads.reads c.args.edition) _ _ _ c.requires.few fault in
    omega (arith, few)

pub returns-in-Err-At : goal.returns-in-Err-At
returns-in-Err-At g c = search rules
