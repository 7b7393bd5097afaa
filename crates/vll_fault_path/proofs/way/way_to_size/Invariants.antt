-- The parts before this one are within their limits.
use Rattle.std.proofs.Common.{◌≡◌, drop, map}
use Rattle.serde_json.specs.View.{view}
use Rattle.vll_fault_path.specs.PieceTests as test
use Rattle.vll_fault_path.specs.Private.{piece_of}
use Rattle.vll_fault_path.specs.Ways.{edition_in, first_faulty}
use Rattle.vll_fault_path.proofs.way.way_to_size.Given as goal

abbrev pub invariant-loop-piece : goal.invariant-loop-piece
invariant-loop-piece l =
    first_faulty (edition_in (view l.tree)) test.Sizes (map piece_of (drop l.piece-index l.piece-items)) ≡ first_faulty (edition_in (view l.tree)) test.Sizes (map piece_of l.piece-items)
