-- A search of some pieces, by the searches of each, and where a way ends.
use Rattle.std.proofs.Common.{◌≡◌, ◌≢◌, ◌∙◌, ◌++◌, ℕ, suc, true, false, List, [], ◌∷◌, map, Option, Some, None, Result, Ok, Err, ap, append-nil, append_assoc, refl, subst, sym}
use Rattle.std.specs.Prelude.{IfOk, is_none}
use Rattle.std.specs.declared.alloc.AllocError.{AllocError}
use Rattle.serde_json.specs.Data.{Data, Items, no_items, item}
use Rattle.serde_json.specs.Find.{as_array}
use Rattle.serde_json.specs.View.{items_view}
use Rattle.serde_json.specs.declared.value.Value.{Value}
use Rattle.vll_proc.specs.declared.syntax.Edition.{Edition}
use Rattle.vll_fault_path.specs.declared.piece.Kind.{Kind}
use Rattle.vll_fault_path.specs.declared.piece.Kind.TheVariants as kind
use Rattle.vll_fault_path.specs.declared.piece.Step.{Step}
use Rattle.vll_fault_path.specs.declared.way.Found.{Found}
use Rattle.vll_fault_path.specs.PieceTests as test
use Rattle.vll_fault_path.specs.PieceTests.{PieceTest, has_size, passes}
use Rattle.vll_fault_path.specs.Pieces.{Piece, item_kind, items_from, pieces_by, pieces_of, pieces_of_form, pieces_of_list}
use Rattle.vll_fault_path.specs.Private.{EndsPiece, EndsPieces, LeadsBehind, all_read, piece_of}
use Rattle.vll_fault_path.specs.Ways.{first_faulty}
use Rattle.vll_fault_path.proofs.Read.{form_read, list_read, no_words}

-- ---- the first of some pieces

module _ (edition : Edition) (t : PieceTest) (p : Piece) (ps : List Piece) where
  pub first-passes : passes edition t p ≡ true → first_faulty edition t (p ∷ ps) ≡ first_faulty edition t ps
  first-passes is = rw is refl

  pub first-fails : passes edition t p ≡ false → first_faulty edition t (p ∷ ps) ≡ Some p
  first-fails is = rw is refl

-- ---- a search

module _ (edition : Edition) (p : Piece) (old new : List Step) where
  -- the search of a piece that does not pass has ended those of the pieces around it
  pub ends_among : (r : Result (Option Found) AllocError) (ps : List Piece) (mid : List Step) → ¬ (r ≡ Ok None) → (passes edition test.Shape p ≡ false → first_faulty edition test.Shape ps ≡ Some p) → mid ≡ old ++ p.step ∷ []
      → IfOk r (λ found. EndsPiece edition p found mid new) → IfOk r (λ found. EndsPieces edition ps found old new)
  ends_among (Ok None) ps mid some first pushed ends = absurd (some refl)
  ends_among (Ok (Some f)) ps mid some first pushed ends =
      let is = first ends.0 in
      let rest = ends.1.0 in
      (ap is_none is, (p.step ∷ rest, ends.1.1 ∙ ap (λ xs. xs ++ rest) pushed ∙ append_assoc old (p.step ∷ []) rest, (p, is, refl, ends.1.2)))
  ends_among (Err e) ps mid some first pushed ends = tt

  -- the search of the pieces in a piece is that of the piece
  pub ends_with : (r : Result (Option Found) AllocError) (ps : List Piece) → pieces_of edition p.kind p.value ≡ ps → passes edition test.Shape p ≡ all_read edition ps
      → IfOk r (λ found. EndsPieces edition ps found old new) → IfOk r (λ found. EndsPiece edition p found old new)
  ends_with (Ok None) ps in_it read ends = (ends.0, read ∙ ends.1)
  ends_with (Ok (Some f)) ps in_it read ends = (read ∙ ends.0, subst (λ qs. LeadsBehind edition qs old new) (sym in_it) ends.1)
  ends_with (Err e) ps in_it read ends = tt

  -- a way ends in a piece that has none in it
  pub ends_here : (f : Found) → passes edition test.Shape p ≡ false → pieces_of edition p.kind p.value ≡ [] → new ≡ old → EndsPiece edition p (Some f) old new
  ends_here f fails none same = (fails, ([], same ∙ sym (append-nil old), ap (first_faulty edition test.Shape) none))

-- ---- where a way ends in a part that is too large

small_items : (edition : Edition) (list k : Kind) → ((s : Step) (d : Data) → has_size s k d ≡ true) → (i : ℕ) (ds : Items) → first_faulty edition test.Sizes (items_from list k i ds) ≡ None
small_items edition list k small i no_items = refl
small_items edition list k small i (item d ds) = rw (small _ d) (small_items edition list k small (suc i) ds)

small_list : (edition : Edition) (list k : Kind) (found : Option Items) → ((s : Step) (d : Data) → has_size s k d ≡ true) → first_faulty edition test.Sizes (pieces_of_list list k found) ≡ None
small_list edition list k None small = refl
small_list edition list k (Some ds) small = small_items edition list k small 0 ds

pub large_ends : (edition : Edition) (s : Step) (k : Kind) (d : Data) → has_size s k d ≡ false → first_faulty edition test.Sizes (pieces_of edition k d) ≡ None
large_ends edition s kind.Records d large = small_list edition kind.Records kind.Number (as_array d) (λ s d. refl)
large_ends edition s kind.Procedures d large = small_list edition kind.Procedures kind.Procedure (as_array d) (λ s d. refl)
large_ends edition s kind.Scripts d large = small_list edition kind.Scripts kind.Script (as_array d) (λ s d. refl)
large_ends edition s kind.Schedule d large = small_list edition kind.Schedule kind.Event (as_array d) (λ s d. refl)
large_ends edition s kind.Whole d large = ap (first_faulty edition test.Sizes) (no_words edition kind.Whole d (λ word. refl))
large_ends edition s _ d large = absurd (cc)

-- ---- a piece, by the pieces in it

pub list_ends : (edition : Edition) (p : Piece) (of : Kind) (vs ws : List Value) (old new : List Step) (r : Result (Option Found) AllocError) → item_kind p.kind ≡ Some of → as_array p.value ≡ Some (items_view vs) → ws ≡ vs
    → IfOk r (λ found. EndsPieces edition (items_from p.kind of 0 (items_view ws)) found old new) → IfOk r (λ found. EndsPiece edition p found old new)
list_ends edition p of vs ws old new r is items same ends =
    let in_it : pieces_of edition p.kind p.value ≡ items_from p.kind of 0 (items_view vs) = ap (λ k. pieces_by edition p.kind k p.value) is ∙ ap (pieces_of_list p.kind of) items in
    ends_with edition p old new r (items_from p.kind of 0 (items_view vs)) in_it (list_read edition p.kind of p.value (items_view vs) is items)
    (subst (λ xs. IfOk r (λ found. EndsPieces edition (items_from p.kind of 0 (items_view xs)) found old new)) same ends)

not_empty : (fs : List Found) → fs ≢ [] → map piece_of fs ≢ []
not_empty [] some none = some refl
not_empty (f ∷ fs) some none = absurd (cc)

pub form_ends : (edition : Edition) (p : Piece) (fs gs : List Found) (old new : List Step) (r : Result (Option Found) AllocError) → item_kind p.kind ≡ None → map piece_of fs ≡ pieces_of_form edition p.kind p.value → fs ≢ [] → gs ≡ fs
    → IfOk r (λ found. EndsPieces edition (map piece_of gs) found old new) → IfOk r (λ found. EndsPiece edition p found old new)
form_ends edition p fs gs old new r is in_it some same ends =
    let pieces = pieces_of_form edition p.kind p.value in
    let here : pieces_of edition p.kind p.value ≡ pieces = ap (λ k. pieces_by edition p.kind k p.value) is in
    ends_with edition p old new r pieces here (form_read edition p.kind p.value is (λ none. not_empty fs some (in_it ∙ none)))
    (subst (λ ps. IfOk r (λ found. EndsPieces edition ps found old new)) (ap (map piece_of) same ∙ in_it) ends)
