use Rattle.std.proofs.Common.{◌∙◌, [], ap, min, refl, suc, sym}
use Rattle.vll_proc.specs.declared.limits.TheConstants.{MOST_DEPTH}
use Rattle.vll_fault_path.specs.Parts as part
use Rattle.vll_fault_path.proofs.Parts.{ends}
use Rattle.vll_fault_path.proofs.part.search_leaf.Goals as goal

pub returns-then-not-expression_passes : goal.returns-then-not-expression_passes
returns-then-not-expression_passes c =
    λ has one steps. (sym c.expression_passes.ensures ∙ c.if-not-expression_passes.true, ends c.args.test.now c.args.before.now (part.expression c.args.leaf.now) [] steps steps has refl refl)

pub returns : goal.returns
returns c = λ has one steps. (refl, sym c.expression_passes.ensures ∙ c.if-not-expression_passes.false, ap (λ n. min n (suc MOST_DEPTH)) (sym one))
