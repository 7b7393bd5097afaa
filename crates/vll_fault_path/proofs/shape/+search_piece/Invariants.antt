-- The pieces before this one pass, and no step is left. What nests ends.
use Rattle.std.proofs.Common.{◌≡◌, ◌+◌, ◌*◌, suc, drop, map}
use Rattle.serde_json.specs.Data.{depth, items_depth}
use Rattle.serde_json.specs.View.{items_view, view}
use Rattle.vll_fault_path.specs.PieceTests as test
use Rattle.vll_fault_path.specs.Pieces.{items_from}
use Rattle.vll_fault_path.specs.Private.{piece_of}
use Rattle.vll_fault_path.specs.Ways.{first_faulty}
use Rattle.vll_fault_path.proofs.Ways.{height}
use Rattle.vll_fault_path.proofs.shape.+search_piece.Given as goal

abbrev pub decreases-search_pieces : goal.decreases-search_pieces
decreases-search_pieces l = 2 * height (map piece_of l.pieces.now)

abbrev pub decreases-search_items : goal.decreases-search_items
decreases-search_items l = 2 * suc (items_depth (items_view l.values.now))

abbrev pub decreases-search_piece : goal.decreases-search_piece
decreases-search_piece l = 2 * depth (view l.piece.value.now) + 1

abbrev pub invariant-search_pieces-loop-piece : goal.invariant-search_pieces-loop-piece
invariant-search_pieces-loop-piece l = record {
  steps : l.steps.items ≡ l.fn.steps.items;
  rest : first_faulty l.edition test.Shape (map piece_of (drop l.piece-index l.pieces)) ≡ first_faulty l.edition test.Shape (map piece_of l.pieces);
}

abbrev pub invariant-search_items-loop-i : goal.invariant-search_items-loop-i
invariant-search_items-loop-i l = record {
  steps : l.steps.items ≡ l.fn.steps.items;
  rest : first_faulty l.edition test.Shape (items_from l.list l.kind l.i (items_view (drop l.i l.values))) ≡ first_faulty l.edition test.Shape (items_from l.list l.kind 0 (items_view l.values));
}
