use Rattle.std.proofs.Common.{◌≡◌, length, drop}
use Rattle.serde_json.specs.View.{items_view}
use Rattle.vll_scenario.specs.Tree.{each}
use Rattle.vll_scenario.proofs.Lists.{behind}
use Rattle.vll_scenario.proofs.reading.tree.items_of.Given as goal

abbrev pub invariant-loop-i : goal.invariant-loop-i
invariant-loop-i g l =
    (length l.items ≡ l.i) × (behind l.items (each (g.T.Reads.reads l.edition) (items_view (drop l.i l.list))) ≡ each (g.T.Reads.reads l.edition) (items_view l.list))
