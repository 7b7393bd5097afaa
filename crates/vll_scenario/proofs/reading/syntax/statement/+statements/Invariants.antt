use Rattle.std.proofs.Common.{◌≡◌, ◌++◌, drop, option_map}
use Rattle.serde_json.specs.View.{items_view}
use Rattle.vll_scenario.specs.Syntax.{each_stmt}
use Rattle.vll_scenario.proofs.reading.syntax.statement.+statements.Given as goal

abbrev pub invariant-each_stmt_of-loop-value : goal.invariant-each_stmt_of-loop-value
invariant-each_stmt_of-loop-value l = option_map (λ xs. l.stmts ++ xs) (each_stmt l.edition (items_view (drop l.value-index l.list))) ≡ each_stmt l.edition (items_view l.list)
