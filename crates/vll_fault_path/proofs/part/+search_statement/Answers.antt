use Rattle.std.proofs.Common.{◌≡◌, ◌∙◌, ◌+◌, ◌++◌, ◌==◌, ℕ, suc, max, min, Bool, true, false, ◌&&◌, List, [], ◌∷◌, Result, Ok, Err, add-one, ap, ap₂, arith, drop, inl, inr, refl, subst, sym}
use Rattle.std.proofs.lemmas.Bool.{and_from, and_left, and_right, cond-false, ne_eqb}
use Rattle.std.proofs.lemmas.List.{drop_all}
use Rattle.vll_proc.specs.declared.limits.TheConstants.{MOST_DEPTH}
use Rattle.vll_proc.specs.declared.syntax.Expr.{Expr}
use Rattle.vll_proc.specs.declared.syntax.Stmt.{Stmt, If, Repeat}
use Rattle.vll_proc.specs.WellFormed.{body_depth, body_set_behind, depth, stmt_depth}
use Rattle.vll_proc.proofs.Lists.{set_behind_if, set_behind_repeat, stmt_depth_if, stmt_depth_repeat}
use Rattle.vll_check.specs.declared.piece.Before.{Before}
use Rattle.vll_check.specs.declared.piece.Piecewise.{Piecewise}
use Rattle.vll_check.specs.Pieces.{after_list, after_statement, expression_passes, join, list_passes, statement_passes}
use Rattle.vll_fault_path.specs.Parts as part
use Rattle.vll_fault_path.specs.Parts.{Placed, at, first_part, statements_from}
use Rattle.vll_fault_path.specs.Private.{EndsStatement, IsBehind, IsDepth, allows_repeat, is_shallow}
use Rattle.vll_fault_path.specs.declared.part.Behind.{Behind}
use Rattle.vll_fault_path.specs.declared.part.Stop.{Stop}
use Rattle.vll_fault_path.specs.declared.part.Stop.TheVariants.{Fault}
use Rattle.vll_fault_path.specs.declared.piece.Step.{Step}
use Rattle.vll_fault_path.specs.declared.piece.Step.TheVariants as step
use Rattle.vll_scenario.proofs.Fitting.{drop-next}
use Rattle.vll_fault_path.proofs.Parts.{ends, part-fails, part-passes}
use Rattle.vll_fault_path.proofs.Searched.{at_end, deeper, deeper_three, ends_in, further, passed_on}
use Rattle.vll_fault_path.proofs.Tests.{abort_passes, allows_is, if_passes, list_passes_on, none_passes, repeat_passes, shallow_is}
use Rattle.vll_fault_path.proofs.part.+search_statement.Goals as goal

-- ---- a list

pub search_list-returns-in_err-behind : goal.search_list-returns-in_err-behind
search_list-returns-in_err-behind t c =
    let test = c.args.test.now in
    let start = c.args.start.now in
    let before = c.loop-i.before in
    let list = c.args.list.now in
    let i = c.loop-i.i in
    let st = c.index-list-i.result in
    let rest = drop (i + 1) list in
    let found = at (step.Statement i) (part.statement st) in
    let next = drop-next list i st c.loop-i-test.true c.index-list-i.is in
    ends_in test start (part.list list) (statements_from 0 list) (before, found) (IsBehind (after_statement before st) (stmt_depth st)) (IsBehind (after_list start list) (body_depth list))
    c.args.steps.now.items c.push.new.self.items c.search_statement.new.steps.items c.from_residual-in_err-behind.result c.in_err-behind.field-0.0 c.from_residual-in_err-behind.ensures.1 (part.of_list list)
    (λ fails. sym c.loop-i.invariant.parts ∙ ap (λ sts. first_part test before (statements_from i sts)) next ∙ part-fails test before found (statements_from (suc i) rest) fails)
    (λ fails. sym c.loop-i.invariant.passes ∙ ap (list_passes test.fault test.procedure before) next ∙ list_passes_on test.procedure before test.fault st rest c.requires
    ∙ and_left (statement_passes test.fault test.procedure before st) (list_passes test.fault test.procedure (after_statement before st) rest) fails)
    (c.in_ok-push.ensures.items ∙ ap (λ xs. xs ++ step.Statement i ∷ []) c.loop-i.invariant.steps) c.in_err-behind.ensures

pub search_list-returns : goal.search_list-returns
search_list-returns t c =
    let test = c.args.test.now in
    let before = c.loop-i.before in
    let list = c.args.list.now in
    let none = drop_all c.loop-i.i list c.loop-i-test.false in (
      c.loop-i.invariant.steps,
      sym c.loop-i.invariant.passes ∙ ap (list_passes test.fault test.procedure before) none ∙ none_passes test.procedure before test.fault c.requires,
      record {
        before_is = sym (ap (after_list before) none) ∙ c.loop-i.invariant.after;
        depth_is = at_end (suc MOST_DEPTH) c.loop-i.depth (body_depth (drop c.loop-i.i list)) (min (body_depth list) (suc MOST_DEPTH)) c.loop-i.invariant.few (ap body_depth none) c.loop-i.invariant.depth;
      },
    )

pub search_list-loop-i-preserved : goal.search_list-loop-i-preserved
search_list-loop-i-preserved t c =
    let test = c.args.test.now in
    let before = c.loop-i.before in
    let list = c.args.list.now in
    let i = c.loop-i.i in
    let st = c.index-list-i.result in
    let rest = drop (i + 1) list in
    let found = at (step.Statement i) (part.statement st) in
    let next = drop-next list i st c.loop-i-test.true c.index-list-i.is in
    let ended = c.in_ok-behind.ensures in
    let behind = ended.2.before_is in
    let passed = list_passes test.fault test.procedure (after_statement before st) rest in
    record {
      steps = c.step_back.ensures c.args.steps.now.items (step.Statement i) (ended.0 ∙ (c.in_ok-push.ensures.items ∙ ap (λ xs. xs ++ step.Statement i ∷ []) c.loop-i.invariant.steps));
      parts = ap (λ b. first_part test b (statements_from (i + 1) rest)) behind ∙ ap (λ j. first_part test (after_statement before st) (statements_from j rest)) (add-one i)
          ∙ sym (part-passes test before found (statements_from (suc i) rest) ended.1) ∙ sym (ap (λ sts. first_part test before (statements_from i sts)) next) ∙ c.loop-i.invariant.parts;
      passes = ap (λ b. list_passes test.fault test.procedure b rest) behind ∙ sym (list_passes_on test.procedure before test.fault st rest c.requires ∙ ap (λ (b : Bool). b && passed) ended.1)
          ∙ sym (ap (list_passes test.fault test.procedure before) next) ∙ c.loop-i.invariant.passes;
      after = ap (λ b. after_list b rest) behind ∙ sym (ap (after_list before) next) ∙ c.loop-i.invariant.after;
      few = omega (arith, c.loop-i.invariant.few, ended.2.depth_is, c.max-depth.ensures);
      depth = further (suc MOST_DEPTH) c.loop-i.depth (stmt_depth st) (body_depth rest) (min (body_depth list) (suc MOST_DEPTH)) c.in_ok-behind.behind.depth c.max-depth.result ended.2.depth_is c.max-depth.ensures
          (sym (ap (λ sts. min (max c.loop-i.depth (body_depth sts)) (suc MOST_DEPTH)) next) ∙ c.loop-i.invariant.depth);
    }

-- ---- a statement

as_deep : (st : Stmt) (n d : ℕ) → stmt_depth st ≡ n → IsDepth n d → IsDepth (stmt_depth st) d
as_deep st n d same is = is ∙ ap (λ (k : ℕ). min k (suc MOST_DEPTH)) (sym same)

pub search_statement-search_value-requires : goal.search_statement-search_value-requires
search_statement-search_value-requires t c = inl (c.in-Let.index, c.in-Let.is)

pub search_statement-search_value-requires-in-Set : goal.search_statement-search_value-requires-in-Set
search_statement-search_value-requires-in-Set t c = inr (inl (c.in-Set.field-0, c.in-Set.is))

pub search_statement-search_value-requires-in-Reply : goal.search_statement-search_value-requires-in-Reply
search_statement-search_value-requires-in-Reply t c = inr (inr c.in-Reply.is)

pub search_statement-returns-in_err-depth-in-Let : goal.search_statement-returns-in_err-depth-in-Let
search_statement-returns-in_err-depth-in-Let t c =
    let st = c.args.statement.now in
    passed_on c.args.test.now c.args.before.now (part.statement st) (IsDepth (suc (depth c.in-Let.value))) (IsBehind (after_statement c.args.before.now st) (stmt_depth st)) c.args.steps.now.items c.search_value.new.steps.items
    c.from_residual.result c.in_err-depth-in-Let.field-0.0 c.from_residual.ensures.1 c.in_err-depth-in-Let.ensures

pub search_statement-returns-in_ok-depth-in-Let : goal.search_statement-returns-in_ok-depth-in-Let
search_statement-returns-in_ok-depth-in-Let t c =
    let ended = c.in_ok-depth-in-Let.ensures in (
      ended.0,
      ended.1,
      record {
        before_is = c.with_local-before.ensures ∙ ap (after_statement c.args.before.now) (sym c.in-Let.is);
        depth_is = as_deep c.args.statement.now (suc (depth c.in-Let.value)) c.in_ok-depth-in-Let.depth (ap stmt_depth c.in-Let.is) ended.2;
      },
    )

pub search_statement-returns-in_err-depth-in-Set : goal.search_statement-returns-in_err-depth-in-Set
search_statement-returns-in_err-depth-in-Set t c =
    let st = c.args.statement.now in
    passed_on c.args.test.now c.args.before.now (part.statement st) (IsDepth (suc (depth c.in-Set.value))) (IsBehind (after_statement c.args.before.now st) (stmt_depth st)) c.args.steps.now.items c.search_value-in-Set.new.steps.items
    c.from_residual-in_err-depth-in-Set.result c.in_err-depth-in-Set.field-0.0 c.from_residual-in_err-depth-in-Set.ensures.1 c.in_err-depth-in-Set.ensures

pub search_statement-returns-in_ok-depth-in-Set : goal.search_statement-returns-in_ok-depth-in-Set
search_statement-returns-in_ok-depth-in-Set t c =
    let ended = c.in_ok-depth-in-Set.ensures in (
      ended.0,
      ended.1,
      record {
        before_is = ap (after_statement c.args.before.now) (sym c.in-Set.is);
        depth_is = as_deep c.args.statement.now (suc (depth c.in-Set.value)) c.in_ok-depth-in-Set.depth (ap stmt_depth c.in-Set.is) ended.2;
      },
    )

pub search_statement-returns-in_err-depth-in-Reply : goal.search_statement-returns-in_err-depth-in-Reply
search_statement-returns-in_err-depth-in-Reply t c =
    let st = c.args.statement.now in
    passed_on c.args.test.now c.args.before.now (part.statement st) (IsDepth (suc (depth c.in-Reply.value))) (IsBehind (after_statement c.args.before.now st) (stmt_depth st)) c.args.steps.now.items c.search_value-in-Reply.new.steps.items
    c.from_residual-in_err-depth-in-Reply.result c.in_err-depth-in-Reply.field-0.0 c.from_residual-in_err-depth-in-Reply.ensures.1 c.in_err-depth-in-Reply.ensures

pub search_statement-returns-in_ok-depth-in-Reply : goal.search_statement-returns-in_ok-depth-in-Reply
search_statement-returns-in_ok-depth-in-Reply t c =
    let ended = c.in_ok-depth-in-Reply.ensures in (
      ended.0,
      ended.1,
      record {
        before_is = ap (after_statement c.args.before.now) (sym c.in-Reply.is);
        depth_is = as_deep c.args.statement.now (suc (depth c.in-Reply.value)) c.in_ok-depth-in-Reply.depth (ap stmt_depth c.in-Reply.is) ended.2;
      },
    )

pub search_statement-returns-in-Abort : goal.search_statement-returns-in-Abort
search_statement-returns-in-Abort t c =
    let test = c.args.test.now in
    let before = c.args.before.now in (
      refl,
      ap (statement_passes test.fault test.procedure before) c.in-Abort.is ∙ abort_passes test.procedure before test.fault c.in-Abort.field-0,
      record { before_is = ap (after_statement before) (sym c.in-Abort.is); depth_is = as_deep c.args.statement.now 1 1 (ap stmt_depth c.in-Abort.is) refl },
    )

pub search_statement-returns-in-Repeat : goal.search_statement-returns-in-Repeat
search_statement-returns-in-Repeat t c =
    let same : c.args.statement.now ≡ Repeat c.in-Repeat.turns c.as_slice.result.now = c.in-Repeat.is ∙ ap (Repeat c.in-Repeat.turns) (sym c.as_slice.ensures) in
    subst (λ st. EndsStatement c.args.test.now c.args.before.now st c.search_repeat.result c.args.steps.now.items c.search_repeat.new.steps.items) (sym same) c.search_repeat.ensures

-- ---- an `If`

first_fails : (a b d e : Bool) → a ≡ false → (((a && b) && d) && e) ≡ false
first_fails a b d e is = rw is refl

second_fails : (a b d e : Bool) → b ≡ false → (((a && b) && d) && e) ≡ false
second_fails a b d e is = and_left ((a && b) && d) e (and_left (a && b) d (and_right a b is))

third_fails : (a b d e : Bool) → d ≡ false → (((a && b) && d) && e) ≡ false
third_fails a b d e is = and_left ((a && b) && d) e (and_right (a && b) d is)

all_pass : (a b d e : Bool) → a ≡ true → b ≡ true → d ≡ true → e ≡ true → (((a && b) && d) && e) ≡ true
all_pass a b d e one two three four = and_from ((a && b) && d) e (and_from (a && b) d (and_from a b one two) three) four

of_same : (t : Piecewise) (b : Before) (s st : Stmt) (r : Result Behind Stop) (old new : List Step) → s ≡ st → EndsStatement t b st r old new → EndsStatement t b s r old new
of_same t b s st r old new same ended = subst (λ x. EndsStatement t b x r old new) (sym same) ended

module _ (t : Piecewise) (b : Before) (e : Expr) (xs ys : List Stmt) where
  abbrev condition : Placed
  condition = at step.Test (part.expression e)

  abbrev first : Placed
  first = at step.FirstList (part.list xs)

  abbrev second : Placed
  second = at step.SecondList (part.list ys)

  abbrev of_test : Bool
  of_test = expression_passes t.fault t.procedure b e

  abbrev of_first : Bool
  of_first = list_passes t.fault t.procedure b xs

  abbrev of_second : Bool
  of_second = list_passes t.fault t.procedure b ys

  abbrev of_depth : Bool
  of_depth = is_shallow t.fault (stmt_depth (If e xs ys))

after_if : (b behind_first behind_second : Before) (e : Expr) (xs ys : List Stmt) → behind_first ≡ after_list b xs → behind_second ≡ after_list b ys → join behind_first behind_second ≡ after_statement b (If e xs ys)
after_if b behind_first behind_second e xs ys one two = ap₂ (λ x y. join x y) one two ∙ ap (λ set. record b { set = set }) (sym (set_behind_if e xs ys b.set))

pub search_statement-returns-in_err-levels-in-If : goal.search_statement-returns-in_err-levels-in-If
search_statement-returns-in_err-levels-in-If t c =
    let test = c.args.test.now in
    let before = c.args.before.now in
    let e = c.in-If.condition in
    let xs = c.as_slice-first.result.now in
    let ys = c.as_slice-second.result.now in
    let st = If e xs ys in
    let same : c.args.statement.now ≡ st = c.in-If.is ∙ ap₂ (λ l r. If e l r) (sym c.as_slice-first.ensures) (sym c.as_slice-second.ensures) in
    of_same test before c.args.statement.now st c.from_residual-in_err-levels-in-If.result c.args.steps.now.items c.search_expression.new.steps.items same
    (ends_in test before (part.statement st) (condition test before e xs ys ∷ first test before e xs ys ∷ second test before e xs ys ∷ []) (before, condition test before e xs ys) (IsDepth (depth e)) (IsBehind (after_statement before st) (stmt_depth st))
    c.args.steps.now.items c.push.new.self.items c.search_expression.new.steps.items c.from_residual-in_err-levels-in-If.result c.in_err-levels-in-If.field-0.0 c.from_residual-in_err-levels-in-If.ensures.1 (part.of_if e xs ys)
    (λ fails. part-fails test before (condition test before e xs ys) (first test before e xs ys ∷ second test before e xs ys ∷ []) fails)
    (λ fails. if_passes test.procedure before test.fault e xs ys c.requires ∙ first_fails (of_test test before e xs ys) (of_first test before e xs ys) (of_second test before e xs ys) (of_depth test before e xs ys) fails)
    c.in_ok-push-in-If.ensures.items c.in_err-levels-in-If.ensures)

pub search_statement-returns-in_err-behind_first-in-If : goal.search_statement-returns-in_err-behind_first-in-If
search_statement-returns-in_err-behind_first-in-If t c =
    let test = c.args.test.now in
    let before = c.args.before.now in
    let e = c.in-If.condition in
    let xs = c.as_slice-first.result.now in
    let ys = c.as_slice-second.result.now in
    let st = If e xs ys in
    let same : c.args.statement.now ≡ st = c.in-If.is ∙ ap₂ (λ l r. If e l r) (sym c.as_slice-first.ensures) (sym c.as_slice-second.ensures) in
    let one = c.in_ok-levels-in-If.ensures in
    let back = c.step_back.ensures c.args.steps.now.items step.Test (one.0 ∙ c.in_ok-push-in-If.ensures.items) in
    of_same test before c.args.statement.now st c.from_residual-in_err-behind_first-in-If.result c.args.steps.now.items c.search_list.new.steps.items same
    (ends_in test before (part.statement st) (condition test before e xs ys ∷ first test before e xs ys ∷ second test before e xs ys ∷ []) (before, first test before e xs ys) (IsBehind (after_list before xs) (body_depth xs)) (IsBehind (after_statement before st) (stmt_depth st))
    c.args.steps.now.items c.push-in-If.new.self.items c.search_list.new.steps.items c.from_residual-in_err-behind_first-in-If.result c.in_err-behind_first-in-If.field-0.0 c.from_residual-in_err-behind_first-in-If.ensures.1 (part.of_if e xs ys)
    (λ fails. part-passes test before (condition test before e xs ys) (first test before e xs ys ∷ second test before e xs ys ∷ []) one.1 ∙ part-fails test before (first test before e xs ys) (second test before e xs ys ∷ []) fails)
    (λ fails. if_passes test.procedure before test.fault e xs ys c.requires ∙ second_fails (of_test test before e xs ys) (of_first test before e xs ys) (of_second test before e xs ys) (of_depth test before e xs ys) fails)
    (c.in_ok-push-in-If-2.ensures.items ∙ ap (λ ss. ss ++ step.FirstList ∷ []) back) c.in_err-behind_first-in-If.ensures)

pub search_statement-returns-in_err-behind_second-in-If : goal.search_statement-returns-in_err-behind_second-in-If
search_statement-returns-in_err-behind_second-in-If t c =
    let test = c.args.test.now in
    let before = c.args.before.now in
    let e = c.in-If.condition in
    let xs = c.as_slice-first.result.now in
    let ys = c.as_slice-second.result.now in
    let st = If e xs ys in
    let same : c.args.statement.now ≡ st = c.in-If.is ∙ ap₂ (λ l r. If e l r) (sym c.as_slice-first.ensures) (sym c.as_slice-second.ensures) in
    let one = c.in_ok-levels-in-If.ensures in
    let two = c.in_ok-behind_first-in-If.ensures in
    let back = c.step_back.ensures c.args.steps.now.items step.Test (one.0 ∙ c.in_ok-push-in-If.ensures.items) in
    let back-2 = c.step_back-in-If.ensures c.args.steps.now.items step.FirstList (two.0 ∙ (c.in_ok-push-in-If-2.ensures.items ∙ ap (λ ss. ss ++ step.FirstList ∷ []) back)) in
    of_same test before c.args.statement.now st c.from_residual-in_err-behind_second-in-If.result c.args.steps.now.items c.search_list-in-If.new.steps.items same
    (ends_in test before (part.statement st) (condition test before e xs ys ∷ first test before e xs ys ∷ second test before e xs ys ∷ []) (before, second test before e xs ys) (IsBehind (after_list before ys) (body_depth ys)) (IsBehind (after_statement before st) (stmt_depth st))
    c.args.steps.now.items c.push-in-If-2.new.self.items c.search_list-in-If.new.steps.items c.from_residual-in_err-behind_second-in-If.result c.in_err-behind_second-in-If.field-0.0 c.from_residual-in_err-behind_second-in-If.ensures.1 (part.of_if e xs ys)
    (λ fails. part-passes test before (condition test before e xs ys) (first test before e xs ys ∷ second test before e xs ys ∷ []) one.1 ∙ part-passes test before (first test before e xs ys) (second test before e xs ys ∷ []) two.1
    ∙ part-fails test before (second test before e xs ys) [] fails)
    (λ fails. if_passes test.procedure before test.fault e xs ys c.requires ∙ third_fails (of_test test before e xs ys) (of_first test before e xs ys) (of_second test before e xs ys) (of_depth test before e xs ys) fails)
    (c.in_ok-push-in-If-3.ensures.items ∙ ap (λ ss. ss ++ step.SecondList ∷ []) back-2) c.in_err-behind_second-in-If.ensures)

pub search_statement-returns-then-not-is_shallow : goal.search_statement-returns-then-not-is_shallow
search_statement-returns-then-not-is_shallow t c =
    let test = c.args.test.now in
    let before = c.args.before.now in
    let e = c.in-If.condition in
    let xs = c.as_slice-first.result.now in
    let ys = c.as_slice-second.result.now in
    let st = If e xs ys in
    let same : c.args.statement.now ≡ st = c.in-If.is ∙ ap₂ (λ l r. If e l r) (sym c.as_slice-first.ensures) (sym c.as_slice-second.ensures) in
    let one = c.in_ok-levels-in-If.ensures in
    let two = c.in_ok-behind_first-in-If.ensures in
    let three = c.in_ok-behind_second-in-If.ensures in
    let back = c.step_back.ensures c.args.steps.now.items step.Test (one.0 ∙ c.in_ok-push-in-If.ensures.items) in
    let back-2 = c.step_back-in-If.ensures c.args.steps.now.items step.FirstList (two.0 ∙ (c.in_ok-push-in-If-2.ensures.items ∙ ap (λ ss. ss ++ step.FirstList ∷ []) back)) in
    let back-3 = c.step_back-in-If-2.ensures c.args.steps.now.items step.SecondList (three.0 ∙ (c.in_ok-push-in-If-3.ensures.items ∙ ap (λ ss. ss ++ step.SecondList ∷ []) back-2)) in
    let deep = deeper_three (suc MOST_DEPTH) (depth e) (body_depth xs) (body_depth ys) (stmt_depth st) c.in_ok-levels-in-If.levels c.in_ok-behind_first-in-If.behind_first.depth c.in_ok-behind_second-in-If.behind_second.depth c.max-in-If.result c.one_deeper-depth.result
    (stmt_depth_if e xs ys) one.2 two.2.depth_is three.2.depth_is (c.max-in-If.ensures ∙ ap (max c.in_ok-levels-in-If.levels) c.max.ensures) c.one_deeper-depth.ensures in
    of_same test before c.args.statement.now st (Err (Fault 0)) c.args.steps.now.items c.step_back-in-If-2.new.steps.items same (
      if_passes test.procedure before test.fault e xs ys c.requires
          ∙ and_right ((of_test test before e xs ys && of_first test before e xs ys) && of_second test before e xs ys) (of_depth test before e xs ys) (sym (shallow_is test.fault (stmt_depth st) c.one_deeper-depth.result deep) ∙ (sym c.is_shallow.ensures ∙ c.if-not-is_shallow.true)),
      ends test before (part.statement st) (condition test before e xs ys ∷ first test before e xs ys ∷ second test before e xs ys ∷ []) c.args.steps.now.items c.step_back-in-If-2.new.steps.items (part.of_if e xs ys)
          (part-passes test before (condition test before e xs ys) (first test before e xs ys ∷ second test before e xs ys ∷ []) one.1 ∙ part-passes test before (first test before e xs ys) (second test before e xs ys ∷ []) two.1
          ∙ part-passes test before (second test before e xs ys) [] three.1) back-3,
    )

pub search_statement-returns-else-not-is_shallow : goal.search_statement-returns-else-not-is_shallow
search_statement-returns-else-not-is_shallow t c =
    let test = c.args.test.now in
    let before = c.args.before.now in
    let e = c.in-If.condition in
    let xs = c.as_slice-first.result.now in
    let ys = c.as_slice-second.result.now in
    let st = If e xs ys in
    let same : c.args.statement.now ≡ st = c.in-If.is ∙ ap₂ (λ l r. If e l r) (sym c.as_slice-first.ensures) (sym c.as_slice-second.ensures) in
    let one = c.in_ok-levels-in-If.ensures in
    let two = c.in_ok-behind_first-in-If.ensures in
    let three = c.in_ok-behind_second-in-If.ensures in
    let back = c.step_back.ensures c.args.steps.now.items step.Test (one.0 ∙ c.in_ok-push-in-If.ensures.items) in
    let back-2 = c.step_back-in-If.ensures c.args.steps.now.items step.FirstList (two.0 ∙ (c.in_ok-push-in-If-2.ensures.items ∙ ap (λ ss. ss ++ step.FirstList ∷ []) back)) in
    let back-3 = c.step_back-in-If-2.ensures c.args.steps.now.items step.SecondList (three.0 ∙ (c.in_ok-push-in-If-3.ensures.items ∙ ap (λ ss. ss ++ step.SecondList ∷ []) back-2)) in
    let deep = deeper_three (suc MOST_DEPTH) (depth e) (body_depth xs) (body_depth ys) (stmt_depth st) c.in_ok-levels-in-If.levels c.in_ok-behind_first-in-If.behind_first.depth c.in_ok-behind_second-in-If.behind_second.depth c.max-in-If.result c.one_deeper-depth.result
    (stmt_depth_if e xs ys) one.2 two.2.depth_is three.2.depth_is (c.max-in-If.ensures ∙ ap (max c.in_ok-levels-in-If.levels) c.max.ensures) c.one_deeper-depth.ensures in
    of_same test before c.args.statement.now st (Ok (record { before = c.join-before.result; depth = c.one_deeper-depth.result })) c.args.steps.now.items c.step_back-in-If-2.new.steps.items same (
      back-3,
      if_passes test.procedure before test.fault e xs ys c.requires ∙ all_pass (of_test test before e xs ys) (of_first test before e xs ys) (of_second test before e xs ys) (of_depth test before e xs ys) one.1 two.1 three.1
          (sym (shallow_is test.fault (stmt_depth st) c.one_deeper-depth.result deep) ∙ (sym c.is_shallow.ensures ∙ c.if-not-is_shallow.false)),
      record { before_is = c.join-before.ensures ∙ after_if before c.in_ok-behind_first-in-If.behind_first.before c.in_ok-behind_second-in-If.behind_second.before e xs ys two.2.before_is three.2.before_is; depth_is = deep },
    )

-- ---- a `Repeat`

after_none : (b : Before) (n : ℕ) (xs : List Stmt) → n ≡ 0 → b ≡ after_statement b (Repeat n xs)
after_none b n xs none = subst (λ (k : ℕ). b ≡ after_statement b (Repeat k xs)) (sym none) (ap (λ set. record b { set = set }) (sym (set_behind_repeat 0 xs b.set)))

after_some : (b : Before) (n : ℕ) (xs : List Stmt) → (n ≡ 0 → ⊥) → after_list b xs ≡ after_statement b (Repeat n xs)
after_some b n xs some = ap (λ set. record b { set = set }) (sym (set_behind_repeat n xs b.set ∙ cond-false (n == 0) b.set (body_set_behind xs b.set) (ne_eqb n 0 some)))

pub search_repeat-returns-in_err-behind : goal.search_repeat-returns-in_err-behind
search_repeat-returns-in_err-behind t c =
    let test = c.args.test.now in
    let before = c.args.before.now in
    let n = c.args.turns in
    let xs = c.args.list.now in
    let st = Repeat n xs in
    let list = at step.List (part.list xs) in
    ends_in test before (part.statement st) (list ∷ []) (before, list) (IsBehind (after_list before xs) (body_depth xs)) (IsBehind (after_statement before st) (stmt_depth st))
    c.args.steps.now.items c.push.new.self.items c.search_list.new.steps.items c.from_residual-in_err-behind.result c.in_err-behind.field-0.0 c.from_residual-in_err-behind.ensures.1 (part.of_repeat n xs)
    (λ fails. part-fails test before list [] fails)
    (λ fails. repeat_passes test.procedure before test.fault n xs c.requires ∙ and_left (list_passes test.fault test.procedure before xs) (allows_repeat test.fault test.procedure.edition n (stmt_depth st)) fails)
    c.in_ok-push.ensures.items c.in_err-behind.ensures

pub search_repeat-returns-then-not-allows_repeat : goal.search_repeat-returns-then-not-allows_repeat
search_repeat-returns-then-not-allows_repeat t c =
    let test = c.args.test.now in
    let before = c.args.before.now in
    let n = c.args.turns in
    let xs = c.args.list.now in
    let st = Repeat n xs in
    let list = at step.List (part.list xs) in
    let ended = c.in_ok-behind.ensures in
    let deep = deeper (suc MOST_DEPTH) (body_depth xs) (stmt_depth st) c.in_ok-behind.behind.depth c.one_deeper-depth.result (stmt_depth_repeat n xs) ended.2.depth_is c.one_deeper-depth.ensures in (
      repeat_passes test.procedure before test.fault n xs c.requires
          ∙ and_right (list_passes test.fault test.procedure before xs) (allows_repeat test.fault test.procedure.edition n (stmt_depth st))
          (sym (allows_is test.fault test.procedure.edition n (stmt_depth st) c.one_deeper-depth.result deep) ∙ (sym c.allows_repeat.ensures ∙ c.if-not-allows_repeat.true)),
      ends test before (part.statement st) (list ∷ []) c.args.steps.now.items c.step_back.new.steps.items (part.of_repeat n xs) (part-passes test before list [] ended.1)
          (c.step_back.ensures c.args.steps.now.items step.List (ended.0 ∙ c.in_ok-push.ensures.items)),
    )

pub search_repeat-returns-then-turns-eq0 : goal.search_repeat-returns-then-turns-eq0
search_repeat-returns-then-turns-eq0 t c =
    let test = c.args.test.now in
    let before = c.args.before.now in
    let n = c.args.turns in
    let xs = c.args.list.now in
    let st = Repeat n xs in
    let ended = c.in_ok-behind.ensures in
    let deep = deeper (suc MOST_DEPTH) (body_depth xs) (stmt_depth st) c.in_ok-behind.behind.depth c.one_deeper-depth.result (stmt_depth_repeat n xs) ended.2.depth_is c.one_deeper-depth.ensures in (
      c.step_back.ensures c.args.steps.now.items step.List (ended.0 ∙ c.in_ok-push.ensures.items),
      repeat_passes test.procedure before test.fault n xs c.requires
          ∙ and_from (list_passes test.fault test.procedure before xs) (allows_repeat test.fault test.procedure.edition n (stmt_depth st)) ended.1
          (sym (allows_is test.fault test.procedure.edition n (stmt_depth st) c.one_deeper-depth.result deep) ∙ (sym c.allows_repeat.ensures ∙ c.if-not-allows_repeat.false)),
      record { before_is = after_none before n xs c.if-turns-eq0.true; depth_is = deep },
    )

pub search_repeat-returns : goal.search_repeat-returns
search_repeat-returns t c =
    let test = c.args.test.now in
    let before = c.args.before.now in
    let n = c.args.turns in
    let xs = c.args.list.now in
    let st = Repeat n xs in
    let ended = c.in_ok-behind.ensures in
    let deep = deeper (suc MOST_DEPTH) (body_depth xs) (stmt_depth st) c.in_ok-behind.behind.depth c.one_deeper-depth.result (stmt_depth_repeat n xs) ended.2.depth_is c.one_deeper-depth.ensures in (
      c.step_back.ensures c.args.steps.now.items step.List (ended.0 ∙ c.in_ok-push.ensures.items),
      repeat_passes test.procedure before test.fault n xs c.requires
          ∙ and_from (list_passes test.fault test.procedure before xs) (allows_repeat test.fault test.procedure.edition n (stmt_depth st)) ended.1
          (sym (allows_is test.fault test.procedure.edition n (stmt_depth st) c.one_deeper-depth.result deep) ∙ (sym c.allows_repeat.ensures ∙ c.if-not-allows_repeat.false)),
      record { before_is = ended.2.before_is ∙ after_some before n xs c.if-turns-eq0.false; depth_is = deep },
    )
