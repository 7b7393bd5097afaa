-- A way ends in a part that is too large.
use Rattle.std.proofs.Common.{◌≡◌, ◌∙◌, ◌+◌, Some, false, ap, drop, map, refl, subst, sym}
use Rattle.serde_json.specs.View.{view}
use Rattle.vll_fault_path.specs.PieceTests as test
use Rattle.vll_fault_path.specs.PieceTests.{has_size}
use Rattle.vll_fault_path.specs.Pieces.{pieces_of_scenario}
use Rattle.vll_fault_path.specs.Private.{piece_of}
use Rattle.vll_fault_path.specs.Ways.{Leads, edition_in, first_faulty}
use Rattle.vll_scenario.proofs.Fitting.{drop-next}
use Rattle.vll_fault_path.proofs.Shapes.{first-fails, large_ends}
use Rattle.vll_fault_path.proofs.way.way_to_size.Goals as goal

pub returns-then-not-branch : goal.returns-then-not-branch
returns-then-not-branch c =
    let edition = edition_in (view c.args.tree.now) in
    let pieces = pieces_of_scenario (view c.args.tree.now) in
    let fs = c.as_slice-piece-items.result.now in
    let i = c.loop-piece.piece-index in
    let p = piece_of c.piece-item.result in
    let fails : has_size p.step p.kind p.value ≡ false = sym c.in_ok-has_size.ensures ∙ c.if-not-branch.true in
    let here : map piece_of fs ≡ pieces = ap (map piece_of) c.as_slice-piece-items.ensures.value ∙ c.in_ok-pieces.ensures in
    let first : first_faulty edition test.Sizes pieces ≡ Some p =
    ap (first_faulty edition test.Sizes) (sym here)
    ∙ sym c.loop-piece.invariant
    ∙ ap (λ gs. first_faulty edition test.Sizes (map piece_of gs)) (drop-next fs i c.piece-item.result c.loop-piece-test.true c.piece-item.is)
    ∙ first-fails edition test.Sizes p (map piece_of (drop (i + 1) fs)) fails in
    subst (Leads edition test.Sizes pieces) (sym c.in_ok-from_slice.ensures.items) (p, first, refl, large_ends edition p.step p.kind p.value fails)
