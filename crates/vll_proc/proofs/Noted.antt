-- An operator of two operands: what the definitions say of it, whichever it is, and its result when the first reason is noted on the way.
use Rattle.std.proofs.Common.{◌≡◌, ℕ, suc, ◌+◌, ◌*◌, ◌<◌, max, Bool, true, ◌&&◌, Option, Some, None, Result, Ok, Err, refl, sym, subst, ◌∙◌, arith, ◌⊎◌, inl, inr}
use Rattle.vll_proc.proofs.Common.{Reason, Expr, Add, Sub, Mul, Div, Rem, Min, Max, Equal, Less, Scene, and_then, value_of, noted, behind, operation_of, all_leaves, depth, nodes}
use denote.Hole.Carrier.{hidden}
use Rattle.vll_proc.specs.declared.syntax.Expr.TheBlock.{hidden-the_row-Expr-0}
use Rattle.vll_proc.proofs.Copy.{both_true}

-- the value after both operands: a reason of the first hides the second, and a reason noted before hides both
pub noted_both : (f : ℕ → ℕ → Result ℕ Reason) (before between after : Option Reason) (p q r : Result ℕ Reason) (x y : ℕ)
    → noted between x ≡ behind before p → noted after y ≡ behind between q → r ≡ behind after (f x y)
    → r ≡ behind before (and_then p (λ x. and_then q (λ y. f x y)))
noted_both f (Some w) (Some v) (Some u) p q r x y one two three = cc
noted_both f (Some w) (Some v) None p q r x y one two three = cc
noted_both f (Some w) None after p q r x y one two three = cc
noted_both f None None after (Ok a) (Ok b) r x y one two three = by_after after two three
  where
    by_after : (after : Option Reason) → noted after y ≡ Ok b → r ≡ behind after (f x y) → r ≡ f a b
    by_after None two three = cc
    by_after (Some u) two three = cc
noted_both f None None None (Ok a) (Err why) r x y one two three = cc
noted_both f None None (Some u) (Ok a) (Err why) r x y one two three = cc
noted_both f None (Some v) after (Ok a) q r x y one two three = cc
noted_both f None None after (Err why) q r x y one two three = cc
noted_both f None (Some v) None (Err why) q r x y one two three = cc
noted_both f None (Some v) (Some u) (Err why) q r x y one two three = cc

-- an expression with an operator and two operands
pub record IsOperation (e a b : Expr) : Type 0 where
  pub leaves : (t : Expr → Bool) → all_leaves t e ≡ (all_leaves t a && all_leaves t b)
  pub levels : depth e ≡ suc (max (depth a) (depth b))
  pub size : nodes e ≡ suc (nodes a + nodes b)
  pub value : (s : Scene) → value_of e s ≡ and_then (value_of a s) (λ x. and_then (value_of b s) (λ y. operation_of e x y))

-- whichever of the operators it is
pub is_operation : (e a b : Expr) → (e ≡ Add a b) ⊎ ((e ≡ Sub a b) ⊎ ((e ≡ Mul a b) ⊎ ((e ≡ Div a b) ⊎ ((e ≡ Rem a b) ⊎ ((e ≡ Min a b) ⊎ ((e ≡ Max a b) ⊎ ((e ≡ Equal a b) ⊎ ((e ≡ Less a b))))))))) → IsOperation e a b
unfolding hidden hidden-the_row-Expr-0
is_operation e a b (inl is) = subst (λ x. IsOperation x a b) (sym is) (record { leaves = λ t. refl; levels = refl; size = refl; value = λ s. refl })
is_operation e a b (inr (inl is)) = subst (λ x. IsOperation x a b) (sym is) (record { leaves = λ t. refl; levels = refl; size = refl; value = λ s. refl })
is_operation e a b (inr (inr (inl is))) = subst (λ x. IsOperation x a b) (sym is) (record { leaves = λ t. refl; levels = refl; size = refl; value = λ s. refl })
is_operation e a b (inr (inr (inr (inl is)))) = subst (λ x. IsOperation x a b) (sym is) (record { leaves = λ t. refl; levels = refl; size = refl; value = λ s. refl })
is_operation e a b (inr (inr (inr (inr (inl is))))) = subst (λ x. IsOperation x a b) (sym is) (record { leaves = λ t. refl; levels = refl; size = refl; value = λ s. refl })
is_operation e a b (inr (inr (inr (inr (inr (inl is)))))) = subst (λ x. IsOperation x a b) (sym is) (record { leaves = λ t. refl; levels = refl; size = refl; value = λ s. refl })
is_operation e a b (inr (inr (inr (inr (inr (inr (inl is))))))) = subst (λ x. IsOperation x a b) (sym is) (record { leaves = λ t. refl; levels = refl; size = refl; value = λ s. refl })
is_operation e a b (inr (inr (inr (inr (inr (inr (inr (inl is)))))))) = subst (λ x. IsOperation x a b) (sym is) (record { leaves = λ t. refl; levels = refl; size = refl; value = λ s. refl })
is_operation e a b (inr (inr (inr (inr (inr (inr (inr (inr is)))))))) = subst (λ x. IsOperation x a b) (sym is) (record { leaves = λ t. refl; levels = refl; size = refl; value = λ s. refl })

-- what is asked of all leaves is asked of each operand's
pub leaves_left : (t : Expr → Bool) (e a b v : Expr) → IsOperation e a b → v ≡ a → all_leaves t e ≡ true → all_leaves t v ≡ true
leaves_left t e a b v two is all = rw is (both_true (all_leaves t a) (all_leaves t b) (sym (two.leaves t) ∙ all)).0

pub leaves_right : (t : Expr → Bool) (e a b v : Expr) → IsOperation e a b → v ≡ b → all_leaves t e ≡ true → all_leaves t v ≡ true
leaves_right t e a b v two is all = rw is (both_true (all_leaves t a) (all_leaves t b) (sym (two.leaves t) ∙ all)).1

-- each operand is smaller, also before it is computed
pub smaller_left : (e a b v : Expr) → IsOperation e a b → v ≡ a → 2 * nodes v + 1 < 2 * nodes e
smaller_left e a b v two is = let size = two.size in rw is (omega arith)

pub smaller_right : (e a b v : Expr) → IsOperation e a b → v ≡ b → 2 * nodes v + 1 < 2 * nodes e
smaller_right e a b v two is = let size = two.size in rw is (omega arith)
