-- The pieces in a piece nest less deeply than it, so a search of them ends.
use Rattle.std.proofs.Common.{◌≡◌, ℕ, zero, suc, ◌<◌, ◌≤◌, ◌++◌, ◌==◌, max, Bool, true, false, List, [], ◌∷◌, length, get_or, map, Option, Some, None, Ordering, Less, Equal, Greater, if◌then◌else◌, is_some, refl, ap, subst, arith}
use Rattle.std.specs.Prelude.{⊤, codes}
use Rattle.std.specs.Ordering.{nat_cmp}
use Rattle.std.specs.Cmp.Lexicographic.{slice_cmp}
use Rattle.std.specs.Ordering.{match_ordering}
use Rattle.serde_json.specs.Data.{Data, string, array, object, Items, no_items, item, Members, no_members, member, depth, items_depth, members_depth}
use Rattle.serde_json.specs.Events.{items_len}
use Rattle.serde_json.specs.Find.{as_array, as_str, get, get_member}
use Rattle.serde_json.specs.View.{items_view, view}
use Rattle.serde_json.specs.declared.value.Value.{Value}
use Rattle.vll_proc.specs.declared.syntax.Edition.{Edition}
use Rattle.vll_fault_path.specs.declared.piece.Kind.{Kind}
use Rattle.vll_fault_path.specs.declared.piece.Kind.TheVariants as kind
use Rattle.vll_fault_path.specs.declared.form.Slot.{Slot}
use Rattle.vll_fault_path.specs.declared.piece.Step.{Step}
use Rattle.vll_fault_path.specs.declared.piece.Step.TheVariants as step
use Rattle.vll_fault_path.specs.Forms.{form_of}
use Rattle.vll_fault_path.specs.Pieces.{Piece, items_from, member_piece, piece_if, pieces_behind, pieces_of_call, pieces_of_form, pieces_of_key, pieces_of_list, pieces_of_place, pieces_of_procedure, pieces_of_slots, pieces_of_words}
use Rattle.vll_scenario.specs.Syntax.{has_exactly, mode_at, proc_names}
use Rattle.vll_fault_path.specs.declared.way.Found.{Found}
use Rattle.vll_fault_path.specs.Private.{piece_of}

-- one more than how deeply the pieces of a list nest
abbrev pub height : List Piece → ℕ
height [] = 0
height (p ∷ ps) = max (suc (depth p.value)) (height ps)

-- each piece of a list nests less deep than a number
abbrev pub Shallow : ℕ → List Piece → Type 0
Shallow n [] = ⊤
Shallow n (p ∷ ps) = (depth p.value < n) × Shallow n ps

shallow-append : (n : ℕ) (ps qs : List Piece) → Shallow n ps → Shallow n qs → Shallow n (ps ++ qs)
shallow-append n [] qs all others = others
shallow-append n (p ∷ ps) qs all others = (all.0, shallow-append n ps qs all.1 others)

shallow-if : (n : ℕ) (b : Bool) (ps : List Piece) → Shallow n ps → Shallow n (if b then ps else [])
shallow-if n true ps all = all
shallow-if n false ps all = tt

-- ---- the members of an object

by_order : (o : Ordering) (e d : Data) (n : ℕ) (others : Option Data) → match_ordering o others (Some e) others ≡ Some d → (others ≡ Some d → depth d ≤ n) → depth d ≤ max (depth e) n
by_order Less e d n others found less = omega (arith, less found)
by_order Equal e d n others found less = let same : e ≡ d = cc in subst (λ x. depth x ≤ max (depth e) n) same (omega arith)
by_order Greater e d n others found less = omega (arith, less found)

member-depth : (name : List ℕ) (ms : Members) (d : Data) → get_member name ms ≡ Some d → depth d ≤ members_depth ms
member-depth name no_members d is = absurd (cc)
member-depth name (member l e ms) d is = by_order (slice_cmp nat_cmp name l) e d (members_depth ms) (get_member name ms) is (member-depth name ms d)

get-depth : (name : List ℕ) (d x : Data) → get name d ≡ Some x → depth x < depth d
get-depth name (object ms) x is = omega (arith, member-depth name ms x is)
get-depth name _ x is = absurd (cc)

shallow-piece_if : (n : ℕ) (s : Step) (k : Kind) (found : Option Data) → ((x : Data) → found ≡ Some x → depth x < n) → Shallow n (piece_if s k found)
shallow-piece_if n s k None less = tt
shallow-piece_if n s k (Some x) less = (less x refl, tt)

shallow-member : (name : List ℕ) (s : Step) (k : Kind) (d : Data) → Shallow (depth d) (member_piece name s k d)
shallow-member name s k d = shallow-piece_if (depth d) s k (get name d) (get-depth name d)

-- ---- the items of a list

shallow-items : (list k : Kind) (i n : ℕ) (ds : Items) → items_depth ds < n → Shallow n (items_from list k i ds)
shallow-items list k i n no_items within = tt
shallow-items list k i n (item d ds) within = (omega (arith, within), shallow-items list k (suc i) n ds (omega (arith, within)))

shallow-list : (list k : Kind) (d : Data) → Shallow (depth d) (pieces_of_list list k (as_array d))
shallow-list list k (array ds) = shallow-items list k 0 (suc (items_depth ds)) ds (omega arith)
shallow-list list k _ = tt

shallow-behind : (n : ℕ) (slots : List Slot) (ds : Items) → items_depth ds < n → Shallow n (pieces_behind slots ds)
shallow-behind n [] ds within = tt
shallow-behind n (s ∷ slots) no_items within = tt
shallow-behind n (s ∷ slots) (item d ds) within = (omega (arith, within), shallow-behind n slots ds (omega (arith, within)))

shallow-slots : (n : ℕ) (slots : List Slot) (ds : Items) → items_depth ds < n → Shallow n (pieces_of_slots slots ds)
shallow-slots n slots ds within = shallow-if n (length slots == items_len ds) (pieces_behind slots ds) (shallow-behind n slots ds within)

shallow-words : (edition : Edition) (k : Kind) (d : Data) → Shallow (depth d) (pieces_of_words edition k d)
shallow-words edition k (array (item (string word) ds)) = shallow-slots _ (form_of edition k word) ds (omega arith)
shallow-words edition k _ = tt

shallow-place : (edition : Edition) (n : ℕ) (mode word : Option (List ℕ)) (ds : Items) → items_depth ds < n → Shallow n (pieces_of_place edition mode word ds)
shallow-place edition n (Some mode) (Some word) ds within = shallow-if n (is_some (mode_at mode)) _ (shallow-slots n (form_of edition kind.Key word) ds within)
shallow-place edition n _ _ ds within = tt

shallow-key : (edition : Edition) (d : Data) → Shallow (depth d) (pieces_of_key edition d)
shallow-key edition (array (item mode (item word ds))) = shallow-place edition _ (as_str mode) (as_str word) ds (omega arith)
shallow-key edition _ = tt

-- ---- each piece

shallow-procedure : (d : Data) → Shallow (depth d) (pieces_of_procedure d)
shallow-procedure d =
    let name = shallow-member (codes "name") step.Name kind.Text d in
    let args = shallow-member (codes "args") step.Args kind.Index d in
    let keys = shallow-member (codes "keys") step.Keys kind.Keys d in
    let body = shallow-member (codes "body") step.Body kind.Statements d in
    shallow-if _ (has_exactly proc_names d) _ (shallow-append _ _ _ (shallow-append _ _ _ (shallow-append _ _ _ name args) keys) body)

shallow-call : (d : Data) → Shallow (depth d) (pieces_of_call d)
shallow-call d =
    let name = shallow-member (codes "proc") step.Proc kind.Text d in
    let args = shallow-member (codes "args") step.Args kind.Arguments d in
    shallow-if _ (has_exactly (codes "proc" ∷ codes "args" ∷ []) d) _ (shallow-append _ _ _ name args)

shallow-form : (edition : Edition) (k : Kind) (d : Data) → Shallow (depth d) (pieces_of_form edition k d)
shallow-form edition kind.Procedure d = shallow-procedure d
shallow-form edition kind.Call d = shallow-call d
shallow-form edition kind.Key d = shallow-key edition d
shallow-form edition k d = shallow-words edition k d

shallow-height : (n : ℕ) (ps : List Piece) → Shallow n ps → height ps ≤ n
shallow-height n [] all = omega arith
shallow-height n (p ∷ ps) all = omega (arith, all.0, shallow-height n ps all.1)

-- the pieces of a form nest less deep than it
pub form-height : (edition : Edition) (k : Kind) (d : Data) → height (pieces_of_form edition k d) ≤ depth d
form-height edition k d = shallow-height (depth d) _ (shallow-form edition k d)

-- each piece of a list nests less deep than its height
pub height-get : (fs : List Found) (i : ℕ) (f : Found) → i < length fs → f ≡ get_or fs i f → depth (view f.value.now) < height (map piece_of fs)
height-get [] i f within is = absurd (omega (arith, within))
height-get (g ∷ fs) zero f within is = let same : f ≡ g = cc in rw same (omega arith)
height-get (g ∷ fs) (suc i) f within is = omega (arith, height-get fs i f (omega (arith, within)) is)

-- and each item of one nests no deeper than all
pub items-depth-get : (vs : List Value) (i : ℕ) (v : Value) → i < length vs → v ≡ get_or vs i v → depth (view v) ≤ items_depth (items_view vs)
items-depth-get [] i v within is = absurd (omega (arith, within))
items-depth-get (w ∷ vs) zero v within is = let same : v ≡ w = cc in rw same (omega arith)
items-depth-get (w ∷ vs) (suc i) v within is = omega (arith, items-depth-get vs i v (omega (arith, within)) is)

pub array-depth : (d : Data) (ds : Items) → as_array d ≡ Some ds → depth d ≡ suc (items_depth ds)
array-depth (array es) ds is = let same : es ≡ ds = cc in rw same refl
array-depth _ ds is = absurd (cc)

pub items_len-view : (vs : List Value) → items_len (items_view vs) ≡ length vs
items_len-view [] = refl
items_len-view (v ∷ vs) = ap suc (items_len-view vs)
