-- A piece is searched by its pieces, which nest less deep.
use Rattle.std.proofs.Common.{◌≡◌, ◌∙◌, ◌≤◌, ◌≢◌, [], ap, arith, map, subst, sym}
use Rattle.std.proofs.lemmas.Grind.{common_steps}
use Rattle.serde_json.specs.Data.{depth}
use Rattle.serde_json.specs.View.{view}
use Rattle.vll_fault_path.specs.Pieces.{pieces_of_form}
use Rattle.vll_fault_path.specs.Private.{piece_of}
use Rattle.vll_fault_path.proofs.Shapes.{form_ends, list_ends}
use Rattle.vll_fault_path.proofs.Ways.{form-height, height, height-get, items-depth-get}
use Rattle.vll_fault_path.proofs.shape.+search_piece.Goals as goal

pub search_items-search_piece-requires : goal.search_items-search_piece-requires
search_items-search_piece-requires t c =
    let deep = items-depth-get c.args.values.now c.loop-i.i c.index-values-i.result c.loop-i-test.true c.index-values-i.is in
    (omega (arith, deep), tt)

pub search_pieces-search_piece-requires : goal.search_pieces-search_piece-requires
search_pieces-search_piece-requires t c =
    let deep = height-get c.args.pieces.now c.loop-piece.piece-index c.piece-item.result c.loop-piece-test.true c.piece-item.is in
    (omega (arith, deep), tt)

pub search_piece-search_pieces-requires : goal.search_piece-search_pieces-requires
search_piece-search_pieces-requires t c =
    let edition = c.args.edition in
    let kind = c.args.piece.kind in
    let d = view c.args.piece.value.now in
    let same : map piece_of c.as_slice-then-not-is_empty.result.now ≡ pieces_of_form edition kind d = ap (map piece_of) c.as_slice-then-not-is_empty.ensures.value ∙ c.in_ok-pieces.ensures in
    let deep : height (map piece_of c.as_slice-then-not-is_empty.result.now) ≤ depth d = subst (λ ps. height ps ≤ depth d) (sym same) (form-height edition kind d) in
    (omega (arith, deep), tt)

pub search_piece-returns-in-Some-as_array : goal.search_piece-returns-in-Some-as_array
search_piece-returns-in-Some-as_array t c =
    list_ends c.args.edition (piece_of c.args.piece) c.in-Some.item c.in-Some-as_array.list.now.items c.as_slice.result.now c.args.steps.now.items c.search_items.new.steps.items c.search_items.result
    (sym c.item_kind.ensures ∙ c.in-Some.is) (sym c.in-Some-as_array.ensures) c.as_slice.ensures.value c.search_items.ensures

pub search_piece-returns-then-not-is_empty : goal.search_piece-returns-then-not-is_empty
search_piece-returns-then-not-is_empty t c =
    let some : c.in_ok-pieces.pieces.items ≢ [] = λ none. grind (arith, common_steps) in
    form_ends c.args.edition (piece_of c.args.piece) c.in_ok-pieces.pieces.items c.as_slice-then-not-is_empty.result.now c.args.steps.now.items c.search_pieces.new.steps.items c.search_pieces.result
    (sym c.item_kind.ensures ∙ c.in_default.is) c.in_ok-pieces.ensures some c.as_slice-then-not-is_empty.ensures.value c.search_pieces.ensures
