-- The numbers so far, and those of the rest, are those of the list.
use Rattle.std.proofs.Common.{◌≡◌, drop}
use Rattle.serde_json.specs.View.{items_view}
use Rattle.vll_scenario.specs.Tree.{each, number_at}
use Rattle.vll_scenario.proofs.Lists.{behind}
use Rattle.vll_lines.proofs.reading.numbers_in.Given as goal

abbrev pub invariant-loop-value : goal.invariant-loop-value
invariant-loop-value l = behind l.numbers.items (each number_at (items_view (drop l.value-index l.list))) ≡ each number_at (items_view l.list)
