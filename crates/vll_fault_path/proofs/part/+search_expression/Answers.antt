use Rattle.std.proofs.Common.{◌≡◌, ◌⊎◌, ◌∙◌, ◌++◌, ℕ, Bool, suc, max, [], ◌∷◌, ◌&&◌, inl, inr, ap, refl, subst, subst₂, sym}
use Rattle.std.proofs.lemmas.Bool.{and_from, and_left, and_right}
use Rattle.vll_proc.specs.declared.limits.TheConstants.{MOST_DEPTH}
use Rattle.vll_proc.specs.declared.syntax.Expr.{Expr, Arg, Key, Local, Not}
use Rattle.vll_proc.specs.WellFormed.{depth}
use Rattle.vll_proc.proofs.Equations.{depth_not}
use Rattle.vll_proc.proofs.Noted.{is_operation}
use Rattle.vll_check.specs.declared.piece.Before.{Before}
use Rattle.vll_check.specs.declared.piece.Piecewise.{Piecewise}
use Rattle.vll_check.specs.Pieces.{expression_passes}
use Rattle.vll_fault_path.specs.Parts as part
use Rattle.vll_fault_path.specs.Parts.{HasParts, Placed, at, first_part}
use Rattle.vll_fault_path.specs.Private.{IsDepth}
use Rattle.vll_fault_path.specs.declared.piece.Step.TheVariants as step
use Rattle.vll_fault_path.proofs.Parts.{part-fails, part-passes}
use Rattle.vll_fault_path.proofs.Searched.{deeper, deeper_two, ends_in}
use Rattle.vll_fault_path.proofs.Tests.{not_passes, operation_passes}
use Rattle.vll_fault_path.proofs.part.+search_expression.Goals as goal

not_has : (e a x : Expr) → e ≡ Not a → x ≡ a → HasParts (part.expression e) (at step.Operand (part.expression x) ∷ [])
not_has e a x is same = subst₂ (λ y z. HasParts (part.expression y) (at step.Operand (part.expression z) ∷ [])) (sym is) (sym same) (part.of_not a)

leaf_has : (e : Expr) (i : ℕ) → (e ≡ Arg i) ⊎ ((e ≡ Key i) ⊎ (e ≡ Local i)) → HasParts (part.expression e) []
leaf_has e i (inl is) = subst (λ x. HasParts (part.expression x) []) (sym is) (part.of_argument i)
leaf_has e i (inr (inl is)) = subst (λ x. HasParts (part.expression x) []) (sym is) (part.of_key_read i)
leaf_has e i (inr (inr is)) = subst (λ x. HasParts (part.expression x) []) (sym is) (part.of_local i)

leaf_depth : (e : Expr) (i : ℕ) → (e ≡ Arg i) ⊎ ((e ≡ Key i) ⊎ (e ≡ Local i)) → depth e ≡ 1
leaf_depth e i (inl is) = ap depth is
leaf_depth e i (inr (inl is)) = ap depth is
leaf_depth e i (inr (inr is)) = ap depth is

operation_has : (e a b x y : Expr) → part.IsOperation e a b → x ≡ a → y ≡ b → HasParts (part.expression e) (at step.LeftOperand (part.expression x) ∷ at step.RightOperand (part.expression y) ∷ [])
operation_has e a b x y is same also =
    subst₂ (λ l r. HasParts (part.expression e) (at step.LeftOperand (part.expression l) ∷ at step.RightOperand (part.expression r) ∷ [])) (sym same) (sym also) (part.of_operation e a b is)

module _ (t : Piecewise) (before : Before) where
  abbrev passes : Expr → Bool
  passes e = expression_passes t.fault t.procedure before e

  not_is : (e a x : Expr) → e ≡ Not a → x ≡ a → passes e ≡ passes x
  not_is e a x is same = ap passes is ∙ not_passes t.procedure before t.fault a ∙ ap passes (sym same)

  operation_is : (e a b x y : Expr) → part.IsOperation e a b → x ≡ a → y ≡ b → passes e ≡ (passes x && passes y)
  operation_is e a b x y is same also =
      operation_passes t.procedure before t.fault e a b (is_operation e a b is) ∙ ap (λ (l : Expr). passes l && passes b) (sym same) ∙ ap (λ (r : Expr). passes x && passes r) (sym also)

not_depth : (e a x : Expr) → e ≡ Not a → x ≡ a → depth e ≡ suc (depth x)
not_depth e a x is same = ap depth is ∙ depth_not a ∙ ap (λ (y : Expr). suc (depth y)) (sym same)

operation_depth : (e a b x y : Expr) → part.IsOperation e a b → x ≡ a → y ≡ b → depth e ≡ suc (max (depth x) (depth y))
operation_depth e a b x y is same also =
    (is_operation e a b is).levels ∙ ap (λ (l : Expr). suc (max (depth l) (depth b))) (sym same) ∙ ap (λ (r : Expr). suc (max (depth x) (depth r))) (sym also)

pub returns-in-Num : goal.returns-in-Num
returns-in-Num t c =
    c.search_leaf.ensures (subst (λ x. HasParts (part.expression x) []) (sym c.in-Num.is) (part.of_number c.in-Num.field-0)) (ap depth c.in-Num.is) c.args.steps.now.items

pub returns-in-Arg : goal.returns-in-Arg
returns-in-Arg t c = c.search_leaf-in-Arg.ensures (leaf_has c.args.expression.now c.in-Arg.index c.in-Arg.is) (leaf_depth c.args.expression.now c.in-Arg.index c.in-Arg.is) c.args.steps.now.items

pub returns-in_err-operand-in-Not : goal.returns-in_err-operand-in-Not
returns-in_err-operand-in-Not t c =
    let test = c.args.test.now in
    let before = c.args.before.now in
    let e = c.args.expression.now in
    let x = c.get.result.now in
    let operand = at step.Operand (part.expression x) in
    ends_in test before (part.expression e) (operand ∷ []) (before, operand) (IsDepth (depth x)) (IsDepth (depth e)) c.args.steps.now.items c.push.new.self.items c.search_expression.new.steps.items
    c.from_residual-in_err-operand-in-Not.result c.in_err-operand-in-Not.field-0.0 c.from_residual-in_err-operand-in-Not.ensures.1
    (not_has e c.in-Not.operand x c.in-Not.is c.get.ensures) (λ fails. part-fails test before operand [] fails) (λ fails. not_is test before e c.in-Not.operand x c.in-Not.is c.get.ensures ∙ fails)
    c.in_ok-push-in-Not.ensures.items c.in_err-operand-in-Not.ensures

pub returns-in_ok-operand-in-Not : goal.returns-in_ok-operand-in-Not
returns-in_ok-operand-in-Not t c =
    let test = c.args.test.now in
    let e = c.args.expression.now in
    let x = c.get.result.now in
    let ended = c.in_ok-operand-in-Not.ensures in (
      c.step_back.ensures c.args.steps.now.items step.Operand (ended.0 ∙ c.in_ok-push-in-Not.ensures.items),
      not_is test c.args.before.now e c.in-Not.operand x c.in-Not.is c.get.ensures ∙ ended.1,
      deeper (suc MOST_DEPTH) (depth x) (depth e) c.in_ok-operand-in-Not.operand c.one_deeper.result (not_depth e c.in-Not.operand x c.in-Not.is c.get.ensures) ended.2 c.one_deeper.ensures,
    )

pub returns-in_err-left-in-Add : goal.returns-in_err-left-in-Add
returns-in_err-left-in-Add t c =
    let test = c.args.test.now in
    let before = c.args.before.now in
    let e = c.args.expression.now in
    let l = c.get-in-Add.result.now in
    let r = c.in-Add.right in
    let left = at step.LeftOperand (part.expression l) in
    let right = at step.RightOperand (part.expression r) in
    ends_in test before (part.expression e) (left ∷ right ∷ []) (before, left) (IsDepth (depth l)) (IsDepth (depth e)) c.args.steps.now.items c.push-in-Add.new.self.items c.search_expression-in-Add.new.steps.items
    c.from_residual-in_err-left-in-Add.result c.in_err-left-in-Add.field-0.0 c.from_residual-in_err-left-in-Add.ensures.1
    (operation_has e c.in-Add.left r l r c.in-Add.is c.get-in-Add.ensures refl) (λ fails. part-fails test before left (right ∷ []) fails)
    (λ fails. operation_is test before e c.in-Add.left r l r c.in-Add.is c.get-in-Add.ensures refl ∙ and_left (passes test before l) (passes test before r) fails)
    c.in_ok-push-in-Add.ensures.items c.in_err-left-in-Add.ensures

pub returns-in_err-right-in-Add : goal.returns-in_err-right-in-Add
returns-in_err-right-in-Add t c =
    let test = c.args.test.now in
    let before = c.args.before.now in
    let e = c.args.expression.now in
    let l = c.get-in-Add.result.now in
    let r = c.get-in-Add-2.result.now in
    let left = at step.LeftOperand (part.expression l) in
    let right = at step.RightOperand (part.expression r) in
    let ended = c.in_ok-left-in-Add.ensures in
    let back = c.step_back-in-Add.ensures c.args.steps.now.items step.LeftOperand (ended.0 ∙ c.in_ok-push-in-Add.ensures.items) in
    ends_in test before (part.expression e) (left ∷ right ∷ []) (before, right) (IsDepth (depth r)) (IsDepth (depth e)) c.args.steps.now.items c.push-in-Add-2.new.self.items c.search_expression-in-Add-2.new.steps.items
    c.from_residual-in_err-right-in-Add.result c.in_err-right-in-Add.field-0.0 c.from_residual-in_err-right-in-Add.ensures.1
    (operation_has e c.in-Add.left c.in-Add.right l r c.in-Add.is c.get-in-Add.ensures c.get-in-Add-2.ensures)
    (λ fails. part-passes test before left (right ∷ []) ended.1 ∙ part-fails test before right [] fails)
    (λ fails. operation_is test before e c.in-Add.left c.in-Add.right l r c.in-Add.is c.get-in-Add.ensures c.get-in-Add-2.ensures ∙ and_right (passes test before l) (passes test before r) fails)
    (c.in_ok-push-in-Add-2.ensures.items ∙ ap (λ xs. xs ++ step.RightOperand ∷ []) back) c.in_err-right-in-Add.ensures

pub returns-in_ok-right-in-Add : goal.returns-in_ok-right-in-Add
returns-in_ok-right-in-Add t c =
    let test = c.args.test.now in
    let before = c.args.before.now in
    let e = c.args.expression.now in
    let l = c.get-in-Add.result.now in
    let r = c.get-in-Add-2.result.now in
    let one = c.in_ok-left-in-Add.ensures in
    let two = c.in_ok-right-in-Add.ensures in
    let back = c.step_back-in-Add.ensures c.args.steps.now.items step.LeftOperand (one.0 ∙ c.in_ok-push-in-Add.ensures.items) in (
      c.step_back-in-Add-2.ensures c.args.steps.now.items step.RightOperand (two.0 ∙ (c.in_ok-push-in-Add-2.ensures.items ∙ ap (λ xs. xs ++ step.RightOperand ∷ []) back)),
      operation_is test before e c.in-Add.left c.in-Add.right l r c.in-Add.is c.get-in-Add.ensures c.get-in-Add-2.ensures ∙ and_from (passes test before l) (passes test before r) one.1 two.1,
      deeper_two (suc MOST_DEPTH) (depth l) (depth r) (depth e) c.in_ok-left-in-Add.left c.in_ok-right-in-Add.right c.max.result c.one_deeper-in-Add.result
          (operation_depth e c.in-Add.left c.in-Add.right l r c.in-Add.is c.get-in-Add.ensures c.get-in-Add-2.ensures) one.2 two.2 c.max.ensures c.one_deeper-in-Add.ensures,
    )
