-- Whether a part passes a test, by the parts in it.
use Rattle.std.proofs.Common.{◌≡◌, ◌∙◌, ◌≤◌, ℕ, suc, max, min, Bool, true, false, ◌&&◌, List, [], ◌∷◌, None, inl, inr, refl, ap, sym, subst, arith}
use Rattle.std.proofs.lemmas.Bool.{and_from, and_right, le-leb, leb-false, leb-true, lt-leb}
use Rattle.std.specs.List.{list_all}
use Rattle.std.specs.Prelude.{nat_le, length}
use Rattle.vll_proc.specs.declared.limits.TheConstants.{MOST_DEPTH}
use Rattle.vll_proc.specs.declared.syntax.Edition.{Edition}
use Rattle.vll_proc.specs.declared.syntax.Expr.{Expr, Row_of-Expr, end_of-Expr, more_of-Expr, Num, Arg, Key, Local, Add', Sub', Mul', Div', Rem', Min', Max', Equal', Less', Not', Not}
use Rattle.vll_proc.specs.declared.syntax.Proc.{Proc}
use Rattle.vll_proc.specs.declared.syntax.Stmt.{Stmt, Let, Set, If, Abort, Reply, Repeat}
use Rattle.vll_proc.specs.WellFormed.{all_leaves, any_leaf, any_stmt, arg_is_below, body_depth, key_is_below, let_is_known, local_is_known, local_is_set, may_repeat, operand_leaves, set_is_below, sets_no_read_key, stmt_depth, throughout, turns_are_few}
use Rattle.vll_proc.proofs.Equations.{all_leaves_not}
use Rattle.vll_proc.proofs.Lists.{reads_set_if, reads_set_repeat, stmt_depth_if, stmt_depth_repeat, throughout_if, throughout_repeat, turns_are_few_if, turns_are_few_repeat}
use Rattle.vll_proc.proofs.Noted.{IsOperation}
use Rattle.vll_check.specs.declared.fault.CheckFault.{CheckFault}
use Rattle.vll_check.specs.declared.fault.CheckFault.TheVariants.{NotWritable, TooDeep, TooLong, TooManyReplies, TooMuchWork, Turns, UnknownArg, UnknownKey, UnknownLocal, UnsetLocal}
use Rattle.vll_check.specs.declared.piece.Before.{Before}
use Rattle.vll_check.specs.declared.piece.Piecewise.{Piecewise}
use Rattle.vll_check.specs.Pieces.{after_statement, expression_passes, list_passes, statement_passes}
use Rattle.vll_fault_path.specs.declared.piece.Step.TheVariants as step
use Rattle.vll_fault_path.specs.Parts.{at, first_part, statement, statements_from}
use Rattle.vll_fault_path.specs.Private.{HasValue, IsDepth, allows_repeat, is_counted, is_shallow}
use Rattle.vll_fault_path.proofs.Parts.{part-passes}

and-true : (a : Bool) → (a && true) ≡ a
and-true true = refl
and-true false = refl

and-swap : (a b : Bool) → (a && b) ≡ (b && a)
and-swap true true = refl
and-swap true false = refl
and-swap false true = refl
and-swap false false = refl

-- ---- depths

-- what is within a limit with a part that is no deeper
within : (m n most : ℕ) (b : Bool) → m ≤ n → nat_le n most ≡ b → nat_le n most ≡ (nat_le m most && nat_le n most)
within m n most true less is = is ∙ sym (and_from _ _ (le-leb m most (omega (arith, less, leb-true n most is))) is)
within m n most false less is = is ∙ sym (and_right _ _ is)

within_two : (l m n most : ℕ) → l ≤ n → m ≤ n → nat_le n most ≡ ((nat_le l most && nat_le m most) && nat_le n most)
within_two l m n most less also = by_tests (nat_le l most) (nat_le m most) (nat_le n most) (within l n most _ less refl) (within m n most _ also refl)
  where
    by_tests : (x y z : Bool) → z ≡ (x && z) → z ≡ (y && z) → z ≡ ((x && y) && z)
    by_tests true y z one two = two
    by_tests false y z one two = one

-- the deepest of two is within a limit
within_max : (m n most : ℕ) → nat_le (max m n) most ≡ (nat_le m most && nat_le n most)
within_max m n most = by_tests (nat_le m most) (nat_le n most) refl refl
  where
    by_tests : (x y : Bool) → nat_le m most ≡ x → nat_le n most ≡ y → nat_le (max m n) most ≡ (x && y)
    by_tests true true one two = le-leb (max m n) most (omega (arith, leb-true m most one, leb-true n most two))
    by_tests true false one two = lt-leb (max m n) most (omega (arith, leb-false n most two))
    by_tests false y one two = lt-leb (max m n) most (omega (arith, leb-false m most one))

-- a depth is within the limit if it is, counted as far as one more
within_min : (n most : ℕ) → nat_le (min n (suc most)) most ≡ nat_le n most
within_min n most = by_test (nat_le n most) refl
  where
    by_test : (b : Bool) → nat_le n most ≡ b → nat_le (min n (suc most)) most ≡ b
    by_test true is = le-leb (min n (suc most)) most (omega (arith, leb-true n most is))
    by_test false is = lt-leb (min n (suc most)) most (omega (arith, leb-false n most is))

pub shallow_is : (f : CheckFault) (n d : ℕ) → IsDepth n d → is_shallow f d ≡ is_shallow f n
shallow_is TooDeep n d is = ap (λ (k : ℕ). nat_le k MOST_DEPTH) is ∙ within_min n MOST_DEPTH
shallow_is _ n d is = refl

pub allows_is : (f : CheckFault) (edition : Edition) (turns n d : ℕ) → IsDepth n d → allows_repeat f edition turns d ≡ allows_repeat f edition turns n
allows_is TooDeep edition turns n d is = shallow_is TooDeep n d is
allows_is Turns edition turns n d is = refl
allows_is _ edition turns n d is = refl

-- ---- a test that each leaf passes

mutual
  any_leaves : (e : Expr) → all_leaves any_leaf e ≡ true
  any_leaves (Num n) = refl
  any_leaves (Arg i) = refl
  any_leaves (Key i) = refl
  any_leaves (Local i) = refl
  any_leaves (Add' p a q b) = and_from _ _ (any_operand a) (any_operand b)
  any_leaves (Sub' p a q b) = and_from _ _ (any_operand a) (any_operand b)
  any_leaves (Mul' p a q b) = and_from _ _ (any_operand a) (any_operand b)
  any_leaves (Div' p a q b) = and_from _ _ (any_operand a) (any_operand b)
  any_leaves (Rem' p a q b) = and_from _ _ (any_operand a) (any_operand b)
  any_leaves (Min' p a q b) = and_from _ _ (any_operand a) (any_operand b)
  any_leaves (Max' p a q b) = and_from _ _ (any_operand a) (any_operand b)
  any_leaves (Equal' p a q b) = and_from _ _ (any_operand a) (any_operand b)
  any_leaves (Less' p a q b) = and_from _ _ (any_operand a) (any_operand b)
  any_leaves (Not' p a) = any_operand a

  any_operand : {m : _} (r : Row_of-Expr m) → operand_leaves any_leaf r ≡ true
  any_operand end_of-Expr = refl
  any_operand (more_of-Expr e rest) = any_leaves e

-- ---- each part

module _ (p : Proc) (b : Before) where
  pub operation_passes : (f : CheckFault) (e l r : Expr) → IsOperation e l r → expression_passes f p b e ≡ (expression_passes f p b l && expression_passes f p b r)
  operation_passes UnknownKey e l r is = is.leaves (key_is_below (length p.keys))
  operation_passes UnknownArg e l r is = is.leaves (arg_is_below p.args)
  operation_passes UnknownLocal e l r is = is.leaves local_is_known
  operation_passes UnsetLocal e l r is = is.leaves (local_is_set b.set)
  operation_passes _ e l r is = refl

  pub not_passes : (f : CheckFault) (e : Expr) → expression_passes f p b (Not e) ≡ expression_passes f p b e
  not_passes UnknownKey e = all_leaves_not (key_is_below (length p.keys)) e
  not_passes UnknownArg e = all_leaves_not (arg_is_below p.args) e
  not_passes UnknownLocal e = all_leaves_not local_is_known e
  not_passes UnsetLocal e = all_leaves_not (local_is_set b.set) e
  not_passes _ e = refl

  let_fails : (f : CheckFault) (i : ℕ) (e : Expr) → expression_passes f p b e ≡ false → statement_passes f p b (Let i e) ≡ false
  let_fails UnknownKey i e fails = and_right (set_is_below (length p.keys) (Let i e)) _ fails
  let_fails UnknownArg i e fails = and_right (any_stmt (Let i e)) _ fails
  let_fails UnknownLocal i e fails = and_right (let_is_known (Let i e)) _ fails
  let_fails UnsetLocal i e fails = fails
  let_fails _ i e fails = absurd (cc)

  set_fails : (f : CheckFault) (i : ℕ) (e : Expr) → expression_passes f p b e ≡ false → statement_passes f p b (Set i e) ≡ false
  set_fails UnknownKey i e fails = and_right (set_is_below (length p.keys) (Set i e)) _ fails
  set_fails UnknownArg i e fails = and_right (any_stmt (Set i e)) _ fails
  set_fails UnknownLocal i e fails = and_right (let_is_known (Set i e)) _ fails
  set_fails UnsetLocal i e fails = fails
  set_fails _ i e fails = absurd (cc)

  reply_fails : (f : CheckFault) (e : Expr) → expression_passes f p b e ≡ false → statement_passes f p b (Reply e) ≡ false
  reply_fails UnknownKey e fails = fails
  reply_fails UnknownArg e fails = fails
  reply_fails UnknownLocal e fails = fails
  reply_fails UnsetLocal e fails = fails
  reply_fails _ e fails = absurd (cc)

  pub value_fails : (f : CheckFault) (st : Stmt) (e : Expr) → HasValue st e → expression_passes f p b e ≡ false → statement_passes f p b st ≡ false
  value_fails f st e (inl (i, is)) fails = subst (λ s. statement_passes f p b s ≡ false) (sym is) (let_fails f i e fails)
  value_fails f st e (inr (inl (i, is))) fails = subst (λ s. statement_passes f p b s ≡ false) (sym is) (set_fails f i e fails)
  value_fails f st e (inr (inr is)) fails = subst (λ s. statement_passes f p b s ≡ false) (sym is) (reply_fails f e fails)

  pub abort_passes : (f : CheckFault) (code : ℕ) → statement_passes f p b (Abort code) ≡ true
  abort_passes UnknownKey code = refl
  abort_passes NotWritable code = refl
  abort_passes UnknownArg code = refl
  abort_passes UnknownLocal code = refl
  abort_passes UnsetLocal code = refl
  abort_passes TooDeep code = refl
  abort_passes Turns code = refl
  abort_passes _ code = refl

  pub if_passes : (f : CheckFault) (e : Expr) (xs ys : List Stmt) → is_counted f ≡ false
      → statement_passes f p b (If e xs ys) ≡ (((expression_passes f p b e && list_passes f p b xs) && list_passes f p b ys) && is_shallow f (stmt_depth (If e xs ys)))
  if_passes UnknownKey e xs ys part = throughout_if (key_is_below (length p.keys)) (set_is_below (length p.keys)) e xs ys ∙ sym (and-true _)
  if_passes NotWritable e xs ys part =
      throughout_if any_leaf (sets_no_read_key p.keys) e xs ys
      ∙ ap (λ (a : Bool). (a && list_all (throughout any_leaf (sets_no_read_key p.keys)) xs) && list_all (throughout any_leaf (sets_no_read_key p.keys)) ys) (any_leaves e) ∙ sym (and-true _)
  if_passes UnknownArg e xs ys part = throughout_if (arg_is_below p.args) any_stmt e xs ys ∙ sym (and-true _)
  if_passes UnknownLocal e xs ys part = throughout_if local_is_known let_is_known e xs ys ∙ sym (and-true _)
  if_passes UnsetLocal e xs ys part = reads_set_if b.set e xs ys ∙ sym (and-true _)
  if_passes TooDeep e xs ys part =
      let levels = stmt_depth_if e xs ys in
      within_two (body_depth xs) (body_depth ys) (stmt_depth (If e xs ys)) MOST_DEPTH (omega (arith, levels)) (omega (arith, levels))
  if_passes Turns e xs ys part = turns_are_few_if p.edition e xs ys ∙ sym (and-true _)
  if_passes TooManyReplies e xs ys part = absurd (cc)
  if_passes TooLong e xs ys part = absurd (cc)
  if_passes TooMuchWork e xs ys part = absurd (cc)
  if_passes _ e xs ys part = refl

  pub repeat_passes : (f : CheckFault) (n : ℕ) (xs : List Stmt) → is_counted f ≡ false
      → statement_passes f p b (Repeat n xs) ≡ (list_passes f p b xs && allows_repeat f p.edition n (stmt_depth (Repeat n xs)))
  repeat_passes UnknownKey n xs part = throughout_repeat (key_is_below (length p.keys)) (set_is_below (length p.keys)) n xs ∙ sym (and-true _)
  repeat_passes NotWritable n xs part = throughout_repeat any_leaf (sets_no_read_key p.keys) n xs ∙ sym (and-true _)
  repeat_passes UnknownArg n xs part = throughout_repeat (arg_is_below p.args) any_stmt n xs ∙ sym (and-true _)
  repeat_passes UnknownLocal n xs part = throughout_repeat local_is_known let_is_known n xs ∙ sym (and-true _)
  repeat_passes UnsetLocal n xs part = reads_set_repeat b.set n xs ∙ sym (and-true _)
  repeat_passes TooDeep n xs part = within (body_depth xs) (stmt_depth (Repeat n xs)) MOST_DEPTH _ (omega (arith, stmt_depth_repeat n xs)) refl
  repeat_passes Turns n xs part = turns_are_few_repeat p.edition n xs ∙ and-swap (may_repeat p.edition n) (list_all (turns_are_few p.edition) xs)
  repeat_passes TooManyReplies n xs part = absurd (cc)
  repeat_passes TooLong n xs part = absurd (cc)
  repeat_passes TooMuchWork n xs part = absurd (cc)
  repeat_passes _ n xs part = refl

  pub none_passes : (f : CheckFault) → is_counted f ≡ false → list_passes f p b [] ≡ true
  none_passes UnknownKey part = refl
  none_passes NotWritable part = refl
  none_passes UnknownArg part = refl
  none_passes UnknownLocal part = refl
  none_passes UnsetLocal part = refl
  none_passes TooDeep part = refl
  none_passes Turns part = refl
  none_passes TooManyReplies part = absurd (cc)
  none_passes TooLong part = absurd (cc)
  none_passes TooMuchWork part = absurd (cc)
  none_passes _ part = refl

  pub list_passes_on : (f : CheckFault) (st : Stmt) (sts : List Stmt) → is_counted f ≡ false
      → list_passes f p b (st ∷ sts) ≡ (statement_passes f p b st && list_passes f p (after_statement b st) sts)
  list_passes_on UnknownKey st sts part = refl
  list_passes_on NotWritable st sts part = refl
  list_passes_on UnknownArg st sts part = refl
  list_passes_on UnknownLocal st sts part = refl
  list_passes_on UnsetLocal st sts part = refl
  list_passes_on TooDeep st sts part = within_max (stmt_depth st) (body_depth sts) MOST_DEPTH
  list_passes_on Turns st sts part = refl
  list_passes_on TooManyReplies st sts part = absurd (cc)
  list_passes_on TooLong st sts part = absurd (cc)
  list_passes_on TooMuchWork st sts part = absurd (cc)
  list_passes_on _ st sts part = refl

  counted_passes : (f : CheckFault) (st : Stmt) → is_counted f ≡ true → statement_passes f p b st ≡ true
  counted_passes TooManyReplies st counted = refl
  counted_passes TooLong st counted = refl
  counted_passes TooMuchWork st counted = refl
  counted_passes _ st counted = absurd (cc)

-- no statement is tested alone by a test of the whole body
pub none_counted : (t : Piecewise) (b : Before) (i : ℕ) (sts : List Stmt) → is_counted t.fault ≡ true → first_part t b (statements_from i sts) ≡ None
none_counted t b i [] counted = refl
none_counted t b i (st ∷ sts) counted =
    part-passes t b (at (step.Statement i) (statement st)) (statements_from (suc i) sts) (counted_passes t.procedure b t.fault st counted) ∙ none_counted t (after_statement b st) (suc i) sts counted
