use Rattle.std.proofs.Common.{subst, sym}
use Rattle.vll_scenario.specs.Bytes.{ReadsAll}
use Rattle.vll_scenario.proofs.Answering.{tree_reads}
use Rattle.vll_scenario.proofs.reading.read_tree.Goals as goal

pub returns-clause-tree : goal.returns-clause-tree
returns-clause-tree g c =
    let all = subst (ReadsAll _ _) (sym c.as_slice.ensures.value) c.in_ok-bytes.ensures.ok in
    tree_reads _ _ c.as_slice.result.now c.tree_of.result all c.tree_of.ensures.ok c.tree_of.ensures.err
