-- A well-formed procedure's body on the cells of a made call: it may run there, and ends as on the records.
use Rattle.std.proofs.Common.{◌≡◌, ℕ, ◌<◌, ◌≤◌, ◌==◌, Bool, true, false, ◌&&◌, not, nat_lt, List, [], ◌∷◌, ◌++◌, length, map, take, drop, Option, Some, None, Result, Ok, Err, slice_index, refl, sym, ap, ◌∙◌, arith}
use Rattle.vll_proc.proofs.Common.{list_all, ltb-true, lt-ltb, leb-true, length-set, take-append-drop, MOST_CLAIMS, MOST_ARGS, Claim, IsRising, Call, Reason, Moved, Committed, Aborted, Expr, Row_of-Expr, end_of-Expr, more_of-Expr, Num, Arg, Key, Local, Add', Sub', Mul', Div', Rem', Min', Max', Equal', Less', Not', Proc, Stmt, Row_of-Stmt, end_of-Stmt, more_of-Stmt, Let, Set, If', Abort, Reply, Repeat', Holds, IsCallOf, Scene, and_then, effect, has_moved, in_turn, opening_scene, source_of, unless_moved, cell_opening, After, after, applied, IsWellFormed, all_leaves, operand_leaves, throughout, list_throughout, key_is_below, arg_is_below, set_is_below, any_stmt, nothing_set, body_set_behind}
use Rattle.vll_proc.proofs.Alike.{Bridge, IsAlike, EndAlike, alike_in_turn}
use Rattle.vll_proc.proofs.Called.{keys_few, claims_rise, claims_few, key_place, source_within}
use Rattle.vll_proc.proofs.Copy.{IsPlaceFor, both_true, Holds-set}

both_still : (a b c d : Bool) → (a ≡ true → c ≡ true) → (b ≡ true → d ≡ true) → (a && b) ≡ true → (c && d) ≡ true
both_still a b c d f g h = let parts = both_true a b h in rw (f parts.0, g parts.1)

still_below : (m n i : ℕ) → m ≤ n → nat_lt i m ≡ true → nat_lt i n ≡ true
still_below m n i le h = let lt = ltb-true i m h in lt-ltb i n (omega arith)

-- a test that follows from another holds throughout where that one does
mutual
  all_leaves_still : (f g : Expr → Bool) (e : Expr) → ((x : Expr) → f x ≡ true → g x ≡ true) → all_leaves f e ≡ true → all_leaves g e ≡ true
  all_leaves_still f g (Num v) step h = step (Num v) h
  all_leaves_still f g (Arg i) step h = step (Arg i) h
  all_leaves_still f g (Key i) step h = step (Key i) h
  all_leaves_still f g (Local i) step h = step (Local i) h
  all_leaves_still f g (Add' p a q b) step h = both_still _ _ _ _ (operand_leaves_still f g a step) (operand_leaves_still f g b step) h
  all_leaves_still f g (Sub' p a q b) step h = both_still _ _ _ _ (operand_leaves_still f g a step) (operand_leaves_still f g b step) h
  all_leaves_still f g (Mul' p a q b) step h = both_still _ _ _ _ (operand_leaves_still f g a step) (operand_leaves_still f g b step) h
  all_leaves_still f g (Div' p a q b) step h = both_still _ _ _ _ (operand_leaves_still f g a step) (operand_leaves_still f g b step) h
  all_leaves_still f g (Rem' p a q b) step h = both_still _ _ _ _ (operand_leaves_still f g a step) (operand_leaves_still f g b step) h
  all_leaves_still f g (Min' p a q b) step h = both_still _ _ _ _ (operand_leaves_still f g a step) (operand_leaves_still f g b step) h
  all_leaves_still f g (Max' p a q b) step h = both_still _ _ _ _ (operand_leaves_still f g a step) (operand_leaves_still f g b step) h
  all_leaves_still f g (Equal' p a q b) step h = both_still _ _ _ _ (operand_leaves_still f g a step) (operand_leaves_still f g b step) h
  all_leaves_still f g (Less' p a q b) step h = both_still _ _ _ _ (operand_leaves_still f g a step) (operand_leaves_still f g b step) h
  all_leaves_still f g (Not' p a) step h = operand_leaves_still f g a step h

  operand_leaves_still : {m : _} → (f g : Expr → Bool) (row : Row_of-Expr m) → ((x : Expr) → f x ≡ true → g x ≡ true) → operand_leaves f row ≡ true → operand_leaves g row ≡ true
  operand_leaves_still f g end_of-Expr step h = refl
  operand_leaves_still f g (more_of-Expr e rest) step h = all_leaves_still f g e step h

mutual
  throughout_still : (f g : Expr → Bool) (p q : Stmt → Bool) (st : Stmt) → ((x : Expr) → f x ≡ true → g x ≡ true) → ((x : Stmt) → p x ≡ true → q x ≡ true) → throughout f p st ≡ true → throughout g q st ≡ true
  throughout_still f g p q (Let i e) leaf step h = both_still _ _ _ _ (step (Let i e)) (all_leaves_still f g e leaf) h
  throughout_still f g p q (Set i e) leaf step h = both_still _ _ _ _ (step (Set i e)) (all_leaves_still f g e leaf) h
  throughout_still f g p q (If' e m first n second) leaf step h =
      both_still _ _ _ _ (both_still _ _ _ _ (all_leaves_still f g e leaf) (list_throughout_still f g p q first leaf step)) (list_throughout_still f g p q second leaf step) h
  throughout_still f g p q (Abort code) leaf step h = refl
  throughout_still f g p q (Reply e) leaf step h = all_leaves_still f g e leaf h
  throughout_still f g p q (Repeat' turns m list) leaf step h = list_throughout_still f g p q list leaf step h

  list_throughout_still : {m : _} → (f g : Expr → Bool) (p q : Stmt → Bool) (row : Row_of-Stmt m) → ((x : Expr) → f x ≡ true → g x ≡ true) → ((x : Stmt) → p x ≡ true → q x ≡ true)
      → list_throughout f p row ≡ true → list_throughout g q row ≡ true
  list_throughout_still f g p q end_of-Stmt leaf step h = refl
  list_throughout_still f g p q (more_of-Stmt st rest) leaf step h = both_still _ _ _ _ (throughout_still f g p q st leaf step) (list_throughout_still f g p q rest leaf step) h

still_all : {X : Type 0} (p q : X → Bool) (xs : List X) → ((x : X) → p x ≡ true → q x ≡ true) → list_all p xs ≡ true → list_all q xs ≡ true
still_all p q [] f h = refl
still_all p q (x ∷ xs) f h = both_still _ _ _ _ (f x) (still_all p q xs f) h

key_still_below : (m n : ℕ) (e : Expr) → m ≤ n → key_is_below m e ≡ true → key_is_below n e ≡ true
key_still_below m n (Key i) le h = still_below m n i le h
key_still_below m n other le h = refl

arg_still_below : (m n : ℕ) (e : Expr) → m ≤ n → arg_is_below m e ≡ true → arg_is_below n e ≡ true
arg_still_below m n (Arg i) le h = still_below m n i le h
arg_still_below m n other le h = refl

set_still_below : (m n : ℕ) (st : Stmt) → m ≤ n → set_is_below m st ≡ true → set_is_below n st ≡ true
set_still_below m n (Set i e) le h = still_below m n i le h
set_still_below m n other le h = refl

-- a well-formed body reads and sets no more key positions and arguments than there may be
pub keys_known : (p : Proc) → IsWellFormed p → list_all (throughout (key_is_below MOST_CLAIMS) (set_is_below MOST_CLAIMS)) p.body ≡ true
keys_known p formed =
    let few = keys_few p formed in
    still_all (throughout (key_is_below (length p.keys)) (set_is_below (length p.keys))) (throughout (key_is_below MOST_CLAIMS) (set_is_below MOST_CLAIMS)) p.body
    (λ st. throughout_still _ _ _ _ st (λ e. key_still_below (length p.keys) MOST_CLAIMS e few) (λ x. set_still_below (length p.keys) MOST_CLAIMS x few)) formed.known_keys

pub args_known : (p : Proc) → IsWellFormed p → list_all (throughout (arg_is_below MOST_ARGS) any_stmt) p.body ≡ true
args_known p formed =
    let few = leb-true p.args MOST_ARGS formed.few_args in
    still_all (throughout (arg_is_below p.args) any_stmt) (throughout (arg_is_below MOST_ARGS) any_stmt) p.body
    (λ st. throughout_still _ _ _ _ st (λ e. arg_still_below p.args MOST_ARGS e few) (λ x h. h)) formed.known_args

-- cells on one side, records on the other: a claim's place stands for its record
abbrev pub cells_bridge : Proc → (claims : List Claim) → IsRising claims → Bridge
cells_bridge p claims rising = record {
  keys = length p.keys;
  args = p.args;
  stands_for = IsPlaceFor claims;
  same = λ cells records. Holds cells claims records × (length claims ≤ length cells);
  read = λ cells records i r held at. (held.0 i at.claim at.stands).1 ∙ ap (slice_index records) at.is_for;
  store = λ cells records i r v held at. (rw (← at.is_for) (Holds-set cells claims records i at.claim v rising held.1 at.stands held.0), rw length-set held.1);
}

opening_alike : (p : Proc) (c : Call) (cells records : List ℕ) (formed : IsWellFormed p) (made : IsCallOf (length records) p c) → length c.claims ≤ length cells → Holds cells c.claims records
    → IsAlike (cells_bridge p c.claims (claims_rise (length records) p c made)) nothing_set (cell_opening c cells) (opening_scene p c records)
opening_alike p c cells records formed made room holds =
    record { args = λ i lt. refl; named = key_place p c records formed made; locals = λ i is. refl; as_many = refl; values = (holds, room); outputs = refl }

-- the body ends on the cells as on the records
ends_alike : (p : Proc) (c : Call) (cells records : List ℕ) (formed : IsWellFormed p) (made : IsCallOf (length records) p c) → length c.claims ≤ length cells → Holds cells c.claims records
    → EndAlike (cells_bridge p c.claims (claims_rise (length records) p c made)) (body_set_behind p.body nothing_set) (in_turn (map effect p.body) (cell_opening c cells)) (in_turn (map effect p.body) (opening_scene p c records))
ends_alike p c cells records formed made room holds =
    alike_in_turn (cells_bridge p c.claims (claims_rise (length records) p c made)) nothing_set p.body (cell_opening c cells) (opening_scene p c records)
    (opening_alike p c cells records formed made room holds) (formed.known_keys, formed.known_args, formed.set_locals)

-- what an end on cells says of the end on records
abbrev pub ToldBy : List ℕ → List Claim → Result Scene Reason → After → Type 0
ToldBy cells claims (Ok s) a = (a.reply ≡ Committed s.outputs) × Holds s.records claims a.records
ToldBy cells claims (Err why) a = (a.reply ≡ Aborted why) × Holds cells claims a.records

told_by_end : (p : Proc) (claims : List Claim) (rising : IsRising claims) (set : List Bool) (cells records : List ℕ) (r q : Result Scene Reason) → Holds cells claims records
    → EndAlike (cells_bridge p claims rising) set r q → ToldBy cells claims r (after records q)
told_by_end p claims rising set cells records (Ok s) (Ok t) holds h = (ap Committed (sym h.outputs), h.values.0)
told_by_end p claims rising set cells records (Err why) (Err reason) holds h = (ap Aborted (sym h), holds)
told_by_end p claims rising set cells records (Ok s) (Err why) holds h = absurd h
told_by_end p claims rising set cells records (Err why) (Ok t) holds h = absurd h

-- what was found has moved on the cells if it has on the records
moves_alike : (p : Proc) (c : Call) (cells records : List ℕ) → IsWellFormed p → IsCallOf (length records) p c → Holds cells c.claims records
    → has_moved (source_of p.keys) c.found (cell_opening c cells) ≡ has_moved (source_of p.keys) c.found (opening_scene p c records)
moves_alike p c cells records formed made holds = moves (source_of p.keys) c.found (λ i is. source_within p i formed is)
  where
    moves : (source found : Option ℕ) → ((i : ℕ) → source ≡ Some i → i < length p.keys) → has_moved source found (cell_opening c cells) ≡ has_moved source found (opening_scene p c records)
    moves None found within = refl
    moves (Some i) None within = refl
    moves (Some i) (Some v) within =
        let at = key_place p c records formed made i (within i refl) in
        ap (λ (x : ℕ). not (x == v)) ((holds (slice_index c.cells i) at.claim at.stands).1 ∙ ap (slice_index records) at.is_for)

-- what a body ends with on cells, if it begins there
abbrev pub cell_body : Proc → Call → List ℕ → Result Scene Reason
cell_body p c cells = and_then (unless_moved p c (cell_opening c cells)) (in_turn (map effect p.body))

-- a body begins on the cells unless what was found has moved
pub begins_on : (p : Proc) (c : Call) (cells : List ℕ) (r : Result Scene Reason) → has_moved (source_of p.keys) c.found (cell_opening c cells) ≡ false → in_turn (map effect p.body) (cell_opening c cells) ≡ r → cell_body p c cells ≡ r
begins_on p c cells r stays e = rw stays e

pub ends_moved : (p : Proc) (c : Call) (cells : List ℕ) → has_moved (source_of p.keys) c.found (cell_opening c cells) ≡ true → cell_body p c cells ≡ Err Moved
ends_moved p c cells moved = rw moved refl

pub told_on : (p : Proc) (c : Call) (cells records : List ℕ) → IsWellFormed p → IsCallOf (length records) p c → length c.claims ≤ length cells → Holds cells c.claims records
    → ToldBy cells c.claims (cell_body p c cells) (applied p c records)
told_on p c cells records formed made room holds =
    begun (has_moved (source_of p.keys) c.found (cell_opening c cells)) refl
  where
    begun : (moved : Bool) → has_moved (source_of p.keys) c.found (cell_opening c cells) ≡ moved → ToldBy cells c.claims (cell_body p c cells) (applied p c records)
    begun true is = rw (is, ← moves_alike p c cells records formed made holds, is) (refl, holds)
    begun false is =
        rw (is, ← moves_alike p c cells records formed made holds, is)
        (told_by_end p c.claims (claims_rise (length records) p c made) (body_set_behind p.body nothing_set) cells records (in_turn (map effect p.body) (cell_opening c cells)) (in_turn (map effect p.body) (opening_scene p c records)) holds
        (ends_alike p c cells records formed made room holds))

pub told : (p : Proc) (c : Call) (cells records : List ℕ) (r : Result Scene Reason) → IsWellFormed p → IsCallOf (length records) p c → length cells ≡ MOST_CLAIMS
    → cell_body p c cells ≡ r → Holds cells c.claims records → ToldBy cells c.claims r (applied p c records)
told p c cells records r formed made whole e holds =
    let few = claims_few (length records) p c formed made in
    rw (← e) (told_on p c cells records formed made (omega arith) holds)

-- the first cells restored, and then those that never changed
pub put_back : (n : ℕ) (cells then first rest : List ℕ) → first ≡ take n cells → rest ≡ drop n then → drop n then ≡ drop n cells → first ++ rest ≡ cells
put_back n cells then first rest kept is others = rw (kept, is, others) (take-append-drop n cells)
