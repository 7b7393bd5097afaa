use Rattle.std.proofs.Common.{arith, rules}
use Rattle.serde_json.specs.View.{view}
use Rattle.vll_scenario.specs.Syntax.{expr_at}
use Rattle.vll_scenario.proofs.Forms.{as_str-string, expr_at-not, expr_at-other_length, expr_at-other_word, operation-no_left, operation-no_right, view-two, view-three}
use Rattle.vll_scenario.proofs.reading.syntax.expression.+expressions.Goals as goal

pub expr_of-returns-in_ok-operand_of-in-not : goal.expr_of-returns-in_ok-operand_of-in-not
expr_of-returns-in_ok-operand_of-in-not t c =
    rw (
      view-two _ c.in-Array.list _ _ c.in-Array.is (omega arith) c.index.ensures c.index-in-not.ensures,
      as_str-string _ _ c.in_ok-word-in-2.ensures.ok,
      expr_at-not _ _ c.in-not.is,
      c.in_ok-operand_of-in-not.ensures,
    ) (search rules)

pub expr_of-returns-in_err-operand_of-in-not : goal.expr_of-returns-in_err-operand_of-in-not
expr_of-returns-in_err-operand_of-in-not t c =
    rw (
      view-two _ c.in-Array.list _ _ c.in-Array.is (omega arith) c.index.ensures c.index-in-not.ensures,
      as_str-string _ _ c.in_ok-word-in-2.ensures.ok,
      expr_at-not _ _ c.in-not.is,
    ) (search rules)

pub expr_of-returns-in_default-2 : goal.expr_of-returns-in_default-2
expr_of-returns-in_default-2 t c =
    rw (
      view-two _ c.in-Array.list _ _ c.in-Array.is (omega arith) c.index.ensures c.index-in_default-2.ensures,
      as_str-string _ _ c.in_ok-word-in-2.ensures.ok,
      expr_at-other_word _ _ c.in_default-2.not-not,
    ) c.leaf_of.ensures

pub expr_of-returns-in_ok-right-in-3 : goal.expr_of-returns-in_ok-right-in-3
expr_of-returns-in_ok-right-in-3 t c =
    rw (
      view-three _ c.in-Array.list _ _ _ c.in-Array.is (omega arith) c.index-in-3.ensures c.index-in-3-2.ensures c.index-in-3-3.ensures,
      as_str-string _ _ c.in_ok-word-in-3.ensures.ok,
      c.in_ok-left-in-3.ensures,
      c.in_ok-right-in-3.ensures,
    ) c.operation_of.ensures

pub expr_of-returns-in_err-left-in-3 : goal.expr_of-returns-in_err-left-in-3
expr_of-returns-in_err-left-in-3 t c =
    rw (
      view-three _ c.in-Array.list _ _ _ c.in-Array.is (omega arith) c.index-in-3.ensures c.index-in-3-2.ensures c.index-in-3-3.ensures,
      as_str-string _ _ c.in_ok-word-in-3.ensures.ok,
    ) (search (rules, operation-no_left c.in_ok-word-in-3.word.now (expr_at (view c.index-in-3-2.result.now)) (expr_at (view c.index-in-3-3.result.now))))

pub expr_of-returns-in_err-right-in-3 : goal.expr_of-returns-in_err-right-in-3
expr_of-returns-in_err-right-in-3 t c =
    rw (
      view-three _ c.in-Array.list _ _ _ c.in-Array.is (omega arith) c.index-in-3.ensures c.index-in-3-2.ensures c.index-in-3-3.ensures,
      as_str-string _ _ c.in_ok-word-in-3.ensures.ok,
    ) (search (rules, operation-no_right c.in_ok-word-in-3.word.now (expr_at (view c.index-in-3-2.result.now)) (expr_at (view c.index-in-3-3.result.now))))

pub expr_of-returns-in_default-len : goal.expr_of-returns-in_default-len
expr_of-returns-in_default-len t c = expr_at-other_length _ c.in-Array.list c.in-Array.is (λ e. omega arith) (λ e. omega arith)
