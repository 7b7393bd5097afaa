-- A body means the same on two scenes that agree on what it can read: its key positions, its arguments, and the locals that are surely set.
use Rattle.std.proofs.Common.{◌≡◌, ℕ, zero, suc, ◌<◌, ◌≤◌, Bool, true, false, ◌==◌, ◌&&◌, List, [], ◌∷◌, ◌++◌, length, map, get_or, Result, Ok, Err, slice_index, slice_set, refl, sym, ap, ◌∙◌, arith, ⊎_elim, ◌⊎◌, if◌then◌else◌}
use Rattle.vll_proc.proofs.Common.{list_all, ltb-true, cases_eq, cases_lt, false≢true, get_or-set_same, get_or-set_other, get_or_past, length-set, Reason, Expr, Row_of-Expr, end_of-Expr, more_of-Expr, Num, Arg, Key, Local, Add', Sub', Mul', Div', Rem', Min', Max', Equal', Less', Not', Stmt, Row_of-Stmt, end_of-Stmt, more_of-Stmt, Let, Set, If', Abort, Reply, Repeat', Scene, Action, and_then, both, sum, difference, product, quotient, remainder, lesser, greater, equality, order, truth, value_of, operand, effect, list_effect, in_turn, repeated, Locals, all_leaves, operand_leaves, throughout, list_throughout, key_is_below, arg_is_below, set_is_below, any_stmt, local_is_set, both_set, set_behind, list_set_behind, body_set_behind, reads_set, list_reads_set, body_reads_set}
use Rattle.std.proofs.Math.Dec.{eqb-suc-zero}
use Rattle.vll_proc.proofs.Copy.{both_true}

-- how the records of two scenes correspond: which number on one side stands for which on the other,
-- and that reads and stores there keep the two alike
pub record Bridge : Type 1 where
  pub keys : ℕ
  pub args : ℕ
  pub stands_for : ℕ → ℕ → Type 0
  pub same : List ℕ → List ℕ → Type 0
  pub read : (m n : List ℕ) (i r : ℕ) → same m n → stands_for i r → slice_index m i ≡ slice_index n r
  pub store : (m n : List ℕ) (i r v : ℕ) → same m n → stands_for i r → same (slice_set m i v) (slice_set n r v)

-- two lists of locals agree on those that are surely set
abbrev pub AgreeOnSet : Locals → List ℕ → List ℕ → Type 0
AgreeOnSet set m n = (i : ℕ) → get_or set i false ≡ true → slice_index m i ≡ slice_index n i

-- two scenes that agree on what a body can read
pub record IsAlike (b : Bridge) (set : Locals) (s t : Scene) : Type 0 where
  pub args : (i : ℕ) → i < b.args → slice_index s.args i ≡ slice_index t.args i
  pub named : (k : ℕ) → k < b.keys → b.stands_for (slice_index s.named k) (slice_index t.named k)
  pub locals : AgreeOnSet set s.locals t.locals
  pub as_many : length s.locals ≡ length t.locals
  pub values : b.same s.records t.records
  pub outputs : s.outputs ≡ t.outputs

-- what an expression reads is known
abbrev pub IsKnown : Bridge → Locals → ((Expr → Bool) → Bool) → Type 0
IsKnown b set all = (all (key_is_below b.keys) ≡ true) × (all (arg_is_below b.args) ≡ true) × (all (local_is_set set) ≡ true)

known_both : (b : Bridge) (set : Locals) (x y : (Expr → Bool) → Bool) → IsKnown b set (λ test. x test && y test) → IsKnown b set x × IsKnown b set y
known_both b set x y k =
    let keys = both_true _ _ k.0 in
    let args = both_true _ _ k.1 in
    let locals = both_true _ _ k.2 in
    ((keys.0, args.0, locals.0), (keys.1, args.1, locals.1))

same_both : {m n : _} → (f : ℕ → ℕ → Result ℕ Reason) (b : Bridge) (set : Locals) (s t : Scene) (x : Row_of-Expr m) (y : Row_of-Expr n) → IsKnown b set (λ test. operand_leaves test x && operand_leaves test y)
    → (IsKnown b set (λ test. operand_leaves test x) → operand x s ≡ operand x t) → (IsKnown b set (λ test. operand_leaves test y) → operand y s ≡ operand y t)
    → both f (operand x) (operand y) s ≡ both f (operand x) (operand y) t
same_both f b set s t x y k p q =
    let parts = known_both b set (λ test. operand_leaves test x) (λ test. operand_leaves test y) k in
    rw (p parts.0, q parts.1)

mutual
  pub same_value : (b : Bridge) (set : Locals) (s t : Scene) (e : Expr) → IsAlike b set s t → IsKnown b set (λ test. all_leaves test e) → value_of e s ≡ value_of e t
  same_value b set s t (Num v) h k = refl
  same_value b set s t (Arg i) h k = ap Ok (h.args i (ltb-true i b.args k.1))
  same_value b set s t (Key i) h k = ap Ok (b.read s.records t.records _ _ h.values (h.named i (ltb-true i b.keys k.0)))
  same_value b set s t (Local i) h k = ap Ok (h.locals i k.2)
  same_value b set s t (Add' p x q y) h k = same_both sum b set s t x y k (same_operand b set s t x h) (same_operand b set s t y h)
  same_value b set s t (Sub' p x q y) h k = same_both difference b set s t x y k (same_operand b set s t x h) (same_operand b set s t y h)
  same_value b set s t (Mul' p x q y) h k = same_both product b set s t x y k (same_operand b set s t x h) (same_operand b set s t y h)
  same_value b set s t (Div' p x q y) h k = same_both quotient b set s t x y k (same_operand b set s t x h) (same_operand b set s t y h)
  same_value b set s t (Rem' p x q y) h k = same_both remainder b set s t x y k (same_operand b set s t x h) (same_operand b set s t y h)
  same_value b set s t (Min' p x q y) h k = same_both lesser b set s t x y k (same_operand b set s t x h) (same_operand b set s t y h)
  same_value b set s t (Max' p x q y) h k = same_both greater b set s t x y k (same_operand b set s t x h) (same_operand b set s t y h)
  same_value b set s t (Equal' p x q y) h k = same_both equality b set s t x y k (same_operand b set s t x h) (same_operand b set s t y h)
  same_value b set s t (Less' p x q y) h k = same_both order b set s t x y k (same_operand b set s t x h) (same_operand b set s t y h)
  same_value b set s t (Not' p x) h k = ap (λ (r : Result ℕ Reason). and_then r (λ v. Ok (truth (v == 0)))) (same_operand b set s t x h k)

  same_operand : {m : _} → (b : Bridge) (set : Locals) (s t : Scene) (row : Row_of-Expr m) → IsAlike b set s t → IsKnown b set (λ test. operand_leaves test row) → operand row s ≡ operand row t
  same_operand b set s t end_of-Expr h k = refl
  same_operand b set s t (more_of-Expr e rest) h k = same_value b set s t e h k

-- two ends that say the same
abbrev pub EndAlike : Bridge → Locals → Result Scene Reason → Result Scene Reason → Type 0
EndAlike b set (Ok s) (Ok t) = IsAlike b set s t
EndAlike b set (Err why) (Err reason) = why ≡ reason
EndAlike b set (Ok s) (Err why) = ⊥
EndAlike b set (Err why) (Ok t) = ⊥

alike_then : (b : Bridge) (before behind : Locals) (r q : Result Scene Reason) (f g : Action)
    → EndAlike b before r q → ((s t : Scene) → IsAlike b before s t → EndAlike b behind (f s) (g t)) → EndAlike b behind (and_then r f) (and_then q g)
alike_then b before behind (Ok s) (Ok t) f g h step = step s t h
alike_then b before behind (Err why) (Err reason) f g h step = h
alike_then b before behind (Ok s) (Err why) f g h step = absurd h
alike_then b before behind (Err why) (Ok t) f g h step = absurd h

alike_value : (b : Bridge) (set : Locals) (r q : Result ℕ Reason) (f g : ℕ → Result Scene Reason)
    → r ≡ q → ((v : ℕ) → EndAlike b set (f v) (g v)) → EndAlike b set (and_then r f) (and_then q g)
alike_value b set r q f g e step = rw e (end_of_value q)
  where
    end_of_value : (q : Result ℕ Reason) → EndAlike b set (and_then q f) (and_then q g)
    end_of_value (Ok v) = step v
    end_of_value (Err why) = refl

alike_choice : (b : Bridge) (set : Locals) (c : Bool) (f f' g g' : Result Scene Reason) → EndAlike b set f f' → EndAlike b set g g' → EndAlike b set (if c then f else g) (if c then f' else g')
alike_choice b set true f f' g g' p q = p
alike_choice b set false f f' g g' p q = q

-- what both sets have is in each
both_set-each : (a b : Locals) (i : ℕ) → get_or (both_set a b) i false ≡ true → (get_or a i false ≡ true) × (get_or b i false ≡ true)
both_set-each [] b i h = absurd (false≢true h)
both_set-each (x ∷ xs) [] i h = absurd (false≢true h)
both_set-each (x ∷ xs) (y ∷ ys) zero h = both_true x y h
both_set-each (x ∷ xs) (y ∷ ys) (suc i) h = both_set-each xs ys i h

-- ends that are alike on a set are alike on a smaller one
fewer : (b : Bridge) (small large : Locals) (r q : Result Scene Reason) → ((i : ℕ) → get_or small i false ≡ true → get_or large i false ≡ true) → EndAlike b large r q → EndAlike b small r q
fewer b small large (Ok s) (Ok t) within h =
    record { args = h.args; named = h.named; locals = λ i is. h.locals i (within i is); as_many = h.as_many; values = h.values; outputs = h.outputs }
fewer b small large (Err why) (Err reason) within h = h
fewer b small large (Ok s) (Err why) within h = absurd h
fewer b small large (Err why) (Ok t) within h = absurd h

-- a local that is given a value is surely set
AgreeOnSet-set : (set : Locals) (m n : List ℕ) (i v : ℕ) → length m ≡ length n → AgreeOnSet set m n → AgreeOnSet (slice_set set i true) (slice_set m i v) (slice_set n i v)
AgreeOnSet-set set m n i v as_many h j is =
    ⊎_elim
    (λ (e : i ≡ j). rw (← e) (here (cases_lt i (length m))))
    (λ (ne : i ≡ j → ⊥).
    let apart : j ≡ i → ⊥ = λ e. ne (sym e) in
    get_or-set_other m i j v 0 apart ∙ h j (sym (get_or-set_other set i j true false apart) ∙ is) ∙ sym (get_or-set_other n i j v 0 apart))
    (cases_eq i j)
  where
    here : (i < length m) ⊎ (length m ≤ i) → slice_index (slice_set m i v) i ≡ slice_index (slice_set n i v) i
    here = ⊎_elim
        (λ (lt : i < length m). get_or-set_same m i v 0 lt ∙ sym (get_or-set_same n i v 0 (omega (arith, as_many))))
        (λ (ge : length m ≤ i).
        let left : length (slice_set m i v) ≤ i = rw length-set ge in
        let right : length (slice_set n i v) ≤ i = rw (length-set, ← as_many) ge in
        get_or_past (slice_set m i v) i 0 left ∙ sym (get_or_past (slice_set n i v) i 0 right))

both_set-in : (a b : Locals) (i : ℕ) → get_or a i false ≡ true → get_or b i false ≡ true → get_or (both_set a b) i false ≡ true
both_set-in [] b i p q = p
both_set-in (x ∷ xs) [] i p q = q
both_set-in (x ∷ xs) (y ∷ ys) zero p q = rw (p, q) refl
both_set-in (x ∷ xs) (y ∷ ys) (suc i) p q = both_set-in xs ys i p q

still_set_by_let : (set : Locals) (j i : ℕ) → get_or set i false ≡ true → get_or (slice_set set j true) i false ≡ true
still_set_by_let set j i h =
    ⊎_elim
    (λ (e : j ≡ i). rw e (here (cases_lt i (length set))))
    (λ (ne : j ≡ i → ⊥). get_or-set_other set j i true false (λ e. ne (sym e)) ∙ h)
    (cases_eq j i)
  where
    here : (i < length set) ⊎ (length set ≤ i) → get_or (slice_set set i true) i false ≡ true
    here = ⊎_elim
        (λ (lt : i < length set). get_or-set_same set i true false lt)
        (λ (ge : length set ≤ i). absurd (false≢true (sym (get_or_past set i false ge) ∙ h)))

still_set_by_choice : (none : Bool) (set behind : Locals) (i : ℕ) → get_or set i false ≡ true → get_or behind i false ≡ true → get_or (if none then set else behind) i false ≡ true
still_set_by_choice true set behind i before later = before
still_set_by_choice false set behind i before later = later

-- what is surely set before a statement is surely set after it
mutual
  still_set : (st : Stmt) (set : Locals) (i : ℕ) → get_or set i false ≡ true → get_or (set_behind st set) i false ≡ true
  still_set (Let j e) set i h = still_set_by_let set j i h
  still_set (If' e m first n second) set i h = both_set-in (list_set_behind first set) (list_set_behind second set) i (list_still_set first set i h) (list_still_set second set i h)
  still_set (Repeat' turns m list) set i h = still_set_by_choice (turns == 0) set (list_set_behind list set) i h (list_still_set list set i h)
  still_set other set i h = h

  list_still_set : {m : _} → (row : Row_of-Stmt m) (set : Locals) (i : ℕ) → get_or set i false ≡ true → get_or (list_set_behind row set) i false ≡ true
  list_still_set end_of-Stmt set i h = h
  list_still_set (more_of-Stmt st rest) set i h = list_still_set rest (set_behind st set) i (still_set st set i h)

-- an action that ends alike from what is set before it and leaves more set
record EndsAlikeEachTurn (b : Bridge) (set behind : Locals) (act : Action) : Type 0 where
  still : (i : ℕ) → get_or set i false ≡ true → get_or behind i false ≡ true
  turn : (s t : Scene) → IsAlike b set s t → EndAlike b behind (act s) (act t)

-- further turns of it
alike_more_turns : (b : Bridge) (set behind : Locals) (act : Action) (n : ℕ) (s t : Scene) → EndsAlikeEachTurn b set behind act → IsAlike b behind s t → EndAlike b behind (repeated n act s) (repeated n act t)
alike_more_turns b set behind act zero s t each h = h
alike_more_turns b set behind act (suc n) s t each h =
    alike_then b behind behind (act s) (act t) (repeated n act) (repeated n act)
    (each.turn s t (fewer b set behind (Ok s) (Ok t) each.still h))
    (λ s' t' h'. alike_more_turns b set behind act n s' t' each h')

alike_turns : (b : Bridge) (set behind : Locals) (act : Action) (n : ℕ) (s t : Scene) → EndsAlikeEachTurn b set behind act → IsAlike b set s t
    → EndAlike b (if n == 0 then set else behind) (repeated n act s) (repeated n act t)
alike_turns b set behind act zero s t each h = h
alike_turns b set behind act (suc n) s t each h =
    rw (eqb-suc-zero n) (alike_then b behind behind (act s) (act t) (repeated n act) (repeated n act) (each.turn s t h)
    (λ s' t' h'. alike_more_turns b set behind act n s' t' each h'))

-- what a statement reads and sets is known
abbrev pub IsKnownStmt : Bridge → Locals → ((Expr → Bool) → (Stmt → Bool) → Bool) → Bool → Type 0
IsKnownStmt b set all reads = (all (key_is_below b.keys) (set_is_below b.keys) ≡ true) × (all (arg_is_below b.args) any_stmt ≡ true) × (reads ≡ true)

mutual
  alike_effect : (b : Bridge) (set : Locals) (st : Stmt) (s t : Scene) → IsAlike b set s t → IsKnownStmt b set (λ leaf test. throughout leaf test st) (reads_set set st)
      → EndAlike b (set_behind st set) (effect st s) (effect st t)
  alike_effect b set (Let i e) s t h k =
      alike_value b (slice_set set i true) (value_of e s) (value_of e t)
      (λ v. Ok (record s { locals = slice_set s.locals i v }))
      (λ v. Ok (record t { locals = slice_set t.locals i v }))
      (same_value b set s t e h k)
      (λ v. assumption (AgreeOnSet-set set s.locals t.locals i v h.as_many h.locals, length-set s.locals i v ∙ h.as_many ∙ sym (length-set t.locals i v), h))
  alike_effect b set (Set i e) s t h k =
      let keys = both_true _ _ k.0 in
      alike_value b set (value_of e s) (value_of e t)
      (λ v. Ok (record s { records = slice_set s.records (slice_index s.named i) v }))
      (λ v. Ok (record t { records = slice_set t.records (slice_index t.named i) v }))
      (same_value b set s t e h (keys.1, k.1, k.2))
      (λ v. assumption (b.store s.records t.records _ _ v h.values (h.named i (ltb-true i b.keys keys.0)), h))
  alike_effect b set (If' e m first n second) s t h k =
      let keys = both_true _ _ k.0 in
      let args = both_true _ _ k.1 in
      let reads = both_true _ _ k.2 in
      let keys_first = both_true _ _ keys.0 in
      let args_first = both_true _ _ args.0 in
      let reads_first = both_true _ _ reads.0 in
      let behind : Locals = both_set (list_set_behind first set) (list_set_behind second set) in
      alike_value b behind (value_of e s) (value_of e t)
      (λ v. if v == 0 then list_effect second s else list_effect first s)
      (λ v. if v == 0 then list_effect second t else list_effect first t)
      (same_value b set s t e h (keys_first.0, args_first.0, reads_first.0))
      (λ v. alike_choice b behind (v == 0) _ _ _ _
      (fewer b behind (list_set_behind second set) (list_effect second s) (list_effect second t)
      (λ i is. (both_set-each (list_set_behind first set) (list_set_behind second set) i is).1)
      (alike_list b set second s t h (keys.1, args.1, reads.1)))
      (fewer b behind (list_set_behind first set) (list_effect first s) (list_effect first t)
      (λ i is. (both_set-each (list_set_behind first set) (list_set_behind second set) i is).0)
      (alike_list b set first s t h (keys_first.1, args_first.1, reads_first.1))))
  alike_effect b set (Abort code) s t h k = refl
  alike_effect b set (Reply e) s t h k =
      alike_value b set (value_of e s) (value_of e t)
      (λ v. Ok (record s { outputs = s.outputs ++ v ∷ [] }))
      (λ v. Ok (record t { outputs = t.outputs ++ v ∷ [] }))
      (same_value b set s t e h k)
      (λ v. assumption (ap (λ (l : List ℕ). l ++ v ∷ []) h.outputs, h))
  alike_effect b set (Repeat' turns m list) s t h k =
      alike_turns b set (list_set_behind list set) (list_effect list) turns s t
      (record {
        still = λ i is. list_still_set list set i is;
        turn = λ s' t' h'. alike_list b set list s' t' h' k;
      })
      h

  alike_list : {m : _} → (b : Bridge) (set : Locals) (row : Row_of-Stmt m) (s t : Scene) → IsAlike b set s t → IsKnownStmt b set (λ leaf test. list_throughout leaf test row) (list_reads_set set row)
      → EndAlike b (list_set_behind row set) (list_effect row s) (list_effect row t)
  alike_list b set end_of-Stmt s t h k = h
  alike_list b set (more_of-Stmt st rest) s t h k =
      let keys = both_true _ _ k.0 in
      let args = both_true _ _ k.1 in
      let reads = both_true _ _ k.2 in
      alike_then b (set_behind st set) (list_set_behind rest (set_behind st set)) (effect st s) (effect st t) (list_effect rest) (list_effect rest)
      (alike_effect b set st s t h (keys.0, args.0, reads.0))
      (λ s' t' h'. alike_list b (set_behind st set) rest s' t' h' (keys.1, args.1, reads.1))

-- statements in turn end alike
pub alike_in_turn : (b : Bridge) (set : Locals) (body : List Stmt) (s t : Scene) → IsAlike b set s t
    → IsKnownStmt b set (λ leaf test. list_all (throughout leaf test) body) (body_reads_set set body)
    → EndAlike b (body_set_behind body set) (in_turn (map effect body) s) (in_turn (map effect body) t)
alike_in_turn b set [] s t h k = h
alike_in_turn b set (st ∷ body) s t h k =
    let keys = both_true _ _ k.0 in
    let args = both_true _ _ k.1 in
    let reads = both_true _ _ k.2 in
    alike_then b (set_behind st set) (body_set_behind body (set_behind st set)) (effect st s) (effect st t) (in_turn (map effect body)) (in_turn (map effect body))
    (alike_effect b set st s t h (keys.0, args.0, reads.0))
    (λ s' t' h'. alike_in_turn b (set_behind st set) body s' t' h' (keys.1, args.1, reads.1))
