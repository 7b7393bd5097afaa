use Rattle.std.proofs.Common.{◌∙◌, suc, [], ◌∷◌, inl, inr, refl, subst, sym}
use Rattle.vll_proc.specs.declared.limits.TheConstants.{MOST_DEPTH}
use Rattle.vll_proc.specs.declared.syntax.Expr.{Expr}
use Rattle.vll_proc.specs.declared.syntax.Stmt.{Stmt}
use Rattle.vll_proc.specs.WellFormed.{depth}
use Rattle.vll_fault_path.specs.Parts as part
use Rattle.vll_fault_path.specs.Parts.{HasParts, at}
use Rattle.vll_fault_path.specs.Private.{HasValue, IsDepth}
use Rattle.vll_fault_path.specs.declared.piece.Step.TheVariants as step
use Rattle.vll_fault_path.proofs.Parts.{ends, part-fails, part-passes}
use Rattle.vll_fault_path.proofs.Searched.{deeper, ends_in}
use Rattle.vll_fault_path.proofs.Tests.{value_fails}
use Rattle.vll_fault_path.proofs.part.search_value.Goals as goal

value_has : (st : Stmt) (e : Expr) → HasValue st e → HasParts (part.statement st) (at step.Value (part.expression e) ∷ [])
value_has st e (inl (i, is)) = subst (λ x. HasParts (part.statement x) (at step.Value (part.expression e) ∷ [])) (sym is) (part.of_let i e)
value_has st e (inr (inl (i, is))) = subst (λ x. HasParts (part.statement x) (at step.Value (part.expression e) ∷ [])) (sym is) (part.of_set i e)
value_has st e (inr (inr is)) = subst (λ x. HasParts (part.statement x) (at step.Value (part.expression e) ∷ [])) (sym is) (part.of_reply e)

pub returns-in_err-depth : goal.returns-in_err-depth
returns-in_err-depth c =
    let test = c.args.test.now in
    let before = c.args.before.now in
    let st = c.args.statement.now in
    let e = c.args.value.now in
    let value = at step.Value (part.expression e) in
    ends_in test before (part.statement st) (value ∷ []) (before, value) (IsDepth (depth e)) (IsDepth (suc (depth e))) c.args.steps.now.items c.push.new.self.items c.search_expression.new.steps.items
    c.from_residual-in_err-depth.result c.in_err-depth.field-0.0 c.from_residual-in_err-depth.ensures.1 (value_has st e c.requires) (λ fails. part-fails test before value [] fails)
    (λ fails. value_fails test.procedure before test.fault st e c.requires fails) c.in_ok-push.ensures.items c.in_err-depth.ensures

pub returns-then-not-statement_passes : goal.returns-then-not-statement_passes
returns-then-not-statement_passes c =
    let test = c.args.test.now in
    let before = c.args.before.now in
    let st = c.args.statement.now in
    let e = c.args.value.now in
    let value = at step.Value (part.expression e) in
    let ended = c.in_ok-depth.ensures in (
      sym c.statement_passes.ensures ∙ c.if-not-statement_passes.true,
      ends test before (part.statement st) (value ∷ []) c.args.steps.now.items c.step_back.new.steps.items (value_has st e c.requires) (part-passes test before value [] ended.1)
          (c.step_back.ensures c.args.steps.now.items step.Value (ended.0 ∙ c.in_ok-push.ensures.items)),
    )

pub returns : goal.returns
returns c =
    let ended = c.in_ok-depth.ensures in (
      c.step_back.ensures c.args.steps.now.items step.Value (ended.0 ∙ c.in_ok-push.ensures.items),
      sym c.statement_passes.ensures ∙ c.if-not-statement_passes.false,
      deeper (suc MOST_DEPTH) (depth c.args.value.now) (suc (depth c.args.value.now)) c.in_ok-depth.depth c.one_deeper.result refl ended.2 c.one_deeper.ensures,
    )
