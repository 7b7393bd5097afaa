use Rattle.std.proofs.Common.{Some, ◌≡◌, ◌∙◌, ◌+◌, ◌++◌, ◌∷◌, ap, arith, drop, map, option_map, rules, sym}
use Rattle.serde_json.specs.View.{items_view, view}
use Rattle.vll_scenario.specs.Syntax.{each_stmt, expr_at, stmts_at}
use Rattle.vll_scenario.proofs.Fitting.{drop-next}
use Rattle.vll_scenario.proofs.Forms.{as_str-string, branch-no_first, branch-no_second, stmt_at-other_length, stmt_at-other_word, stmt_at-repeat, view-two, view-three, view-four}
use Rattle.vll_scenario.proofs.Lists.{behind-stmt}
use Rattle.vll_scenario.proofs.reading.syntax.statement.+statements.Goals as goal

pub each_stmt_of-loop-value-preserved : goal.each_stmt_of-loop-value-preserved
each_stmt_of-loop-value-preserved t c =
    let edition = c.args.edition in
    let list = c.args.list.now in
    let i = c.loop-value.value-index in
    let so_far = c.loop-value.stmts in
    let value = c.value-item.result in
    let next : drop i list ≡ value ∷ drop (i + 1) list = drop-next list i value c.loop-value-test.true c.value-item.is in
    ap (λ stmts. option_map (λ others. stmts ++ others) (each_stmt edition (items_view (drop (i + 1) list)))) c.in_ok-push.ensures.ok
    ∙ sym (behind-stmt edition so_far c.in_ok-stmt_of.field-0 (view value) (map view (drop (i + 1) list)) c.in_ok-stmt_of.ensures)
    ∙ sym (ap (λ values. option_map (λ others. so_far ++ others) (each_stmt edition (items_view values))) next)
    ∙ c.loop-value.invariant

pub stmt_of-returns-in_ok-word_of-in-2 : goal.stmt_of-returns-in_ok-word_of-in-2
stmt_of-returns-in_ok-word_of-in-2 t c =
    rw (
      view-two _ c.in-Array.list _ _ c.in-Array.is (omega arith) c.index.ensures c.index-in-2.ensures,
      as_str-string _ _ c.in_ok-word_of-in-2.ensures.ok,
    ) c.abort_or_reply.ensures

pub stmt_of-returns-in_default-2 : goal.stmt_of-returns-in_default-2
stmt_of-returns-in_default-2 t c =
    rw (
      view-three _ c.in-Array.list _ _ _ c.in-Array.is (omega arith) c.index-in-3.ensures c.index-in_default-2.ensures c.index-in_default-2-2.ensures,
      as_str-string _ _ c.in_ok-word-in-3.ensures.ok,
      stmt_at-other_word c.args.edition _ _ _ c.in_default-2.not-repeat,
    ) c.let_or_set.ensures

pub stmt_of-returns-in_ok-stmts-in-repeat : goal.stmt_of-returns-in_ok-stmts-in-repeat
stmt_of-returns-in_ok-stmts-in-repeat t c =
    rw (
      view-three _ c.in-Array.list _ _ _ c.in-Array.is (omega arith) c.index-in-3.ensures c.index-in-repeat.ensures c.index-in-repeat-2.ensures,
      as_str-string _ _ c.in_ok-word-in-3.ensures.ok,
      stmt_at-repeat c.args.edition _ _ _ c.in-repeat.is,
      c.in_ok-turns-in-repeat.ensures,
      c.in_ok-stmts-in-repeat.ensures,
    ) c.repeat_of.ensures

pub stmt_of-returns-in_err-stmts-in-repeat : goal.stmt_of-returns-in_err-stmts-in-repeat
stmt_of-returns-in_err-stmts-in-repeat t c =
    rw (
      view-three _ c.in-Array.list _ _ _ c.in-Array.is (omega arith) c.index-in-3.ensures c.index-in-repeat.ensures c.index-in-repeat-2.ensures,
      as_str-string _ _ c.in_ok-word-in-3.ensures.ok,
      c.in_ok-turns-in-repeat.ensures,
    ) (search rules)

pub stmt_of-returns-in_default-len : goal.stmt_of-returns-in_default-len
stmt_of-returns-in_default-len t c = stmt_at-other_length c.args.edition _ c.in-Array.list c.in-Array.is (λ e. omega arith) (λ e. omega arith) (λ e. omega arith)

pub stmt_of-returns-in_ok-second-in-4 : goal.stmt_of-returns-in_ok-second-in-4
stmt_of-returns-in_ok-second-in-4 t c =
    rw (
      view-four _ c.in-Array.list _ _ _ _ c.in-Array.is (omega arith) c.index-in-4.ensures c.index-in-4-2.ensures c.index-in-4-3.ensures c.index-in-4-4.ensures,
      as_str-string _ _ c.in_ok-word-in-4.ensures.ok,
      c.in_ok-first-in-4.ensures,
      c.in_ok-second-in-4.ensures,
    ) c.branch_of.ensures

pub stmt_of-returns-in_err-first-in-4 : goal.stmt_of-returns-in_err-first-in-4
stmt_of-returns-in_err-first-in-4 t c =
    rw (
      view-four _ c.in-Array.list _ _ _ _ c.in-Array.is (omega arith) c.index-in-4.ensures c.index-in-4-2.ensures c.index-in-4-3.ensures c.index-in-4-4.ensures,
      as_str-string _ _ c.in_ok-word-in-4.ensures.ok,
    ) (search (rules, branch-no_first))

pub stmt_of-returns-in_err-second-in-4 : goal.stmt_of-returns-in_err-second-in-4
stmt_of-returns-in_err-second-in-4 t c =
    rw (
      view-four _ c.in-Array.list _ _ _ _ c.in-Array.is (omega arith) c.index-in-4.ensures c.index-in-4-2.ensures c.index-in-4-3.ensures c.index-in-4-4.ensures,
      as_str-string _ _ c.in_ok-word-in-4.ensures.ok,
      c.in_ok-first-in-4.ensures,
    ) (search (rules, branch-no_second c.in_ok-word-in-4.word.now (expr_at (view c.index-in-4-2.result.now)) (Some c.in_ok-first-in-4.first) (stmts_at c.args.edition (view c.index-in-4-4.result.now))))
