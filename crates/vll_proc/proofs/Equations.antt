-- What the definitions say of an operand and of an operator of one operand, as they are built.
use Rattle.std.proofs.Common.{◌≡◌, suc, Bool, ◌==◌, refl, Ok}
use Rattle.vll_proc.proofs.Common.{Expr, Not, Scene, and_then, value_of, truth, all_leaves, depth, nodes}
use denote.Hole.Carrier.{hidden}
use Rattle.vll_proc.specs.declared.syntax.Expr.TheBlock.{hidden-the_row-Expr-0}

pub value_of_not : (a : Expr) (s : Scene) → value_of (Not a) s ≡ and_then (value_of a s) (λ x. Ok (truth (x == 0)))
unfolding hidden hidden-the_row-Expr-0
value_of_not a s = refl

pub all_leaves_not : (t : Expr → Bool) (a : Expr) → all_leaves t (Not a) ≡ all_leaves t a
unfolding hidden hidden-the_row-Expr-0
all_leaves_not t a = refl

pub depth_not : (a : Expr) → depth (Not a) ≡ suc (depth a)
unfolding hidden hidden-the_row-Expr-0
depth_not a = refl

pub nodes_not : (a : Expr) → nodes (Not a) ≡ suc (nodes a)
unfolding hidden hidden-the_row-Expr-0
nodes_not a = refl

pub ruleset forms = (value_of_not, all_leaves_not, depth_not, nodes_not)
