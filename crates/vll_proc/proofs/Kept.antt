-- What a body leaves as it was: the number of records, and each record that it does not claim for writing.
use Rattle.std.proofs.Common.{◌≡◌, ◌≢◌, ℕ, zero, suc, ◌<◌, Bool, true, false, ◌==◌, nat_lt, List, [], ◌∷◌, ◌++◌, length, map, take, get_or, Option, Some, None, Result, Ok, Err, slice_get, slice_index, slice_set, refl, sym, ap, ◌∙◌, arith, if◌then◌else◌}
use Rattle.vll_proc.proofs.Common.{list_all, ltb-true, eq-eqb, cond-true, false≢true, get_or-set_other, length-set, slice_get-get_or, Claim, Mode, Read, Write, mode_on, stronger_of, mode_on-claims_of, Call, Reason, Moved, Expr, KeyDecl, Proc, Stmt, Row_of-Stmt, end_of-Stmt, more_of-Stmt, Let, Set, If', Abort, Reply, Repeat', IsCallOf, Scene, Action, and_then, value_of, effect, list_effect, in_turn, repeated, record_named, found_at, has_moved, opening_scene, source_of, unless_moved, body, after, applied, IsWellFormed, key_is_below, set_is_below, any_leaf, throughout, list_throughout, is_not_read, sets_no_read_key}
use Rattle.vll_proc.proofs.Called.{claims_named, claim_named, number_named, some_key, key_record}
use Rattle.vll_proc.proofs.Copy.{both_true}

-- a fact of the scene that a result ends with, if it ends with one
abbrev pub IfGoesOn : (Scene → Type 0) → Result Scene Reason → Type 0
IfGoesOn P (Ok s) = P s
IfGoesOn P (Err why) = Unit {0}

goes_on_then : (P Q : Scene → Type 0) (r : Result Scene Reason) (go : Action) → IfGoesOn P r → ((s : Scene) → P s → IfGoesOn Q (go s)) → IfGoesOn Q (and_then r go)
goes_on_then P Q (Ok s) go h step = step s h
goes_on_then P Q (Err why) go h step = tt

goes_on_value : (P : Scene → Type 0) (r : Result ℕ Reason) (f : ℕ → Result Scene Reason) → ((v : ℕ) → IfGoesOn P (f v)) → IfGoesOn P (and_then r f)
goes_on_value P (Ok v) f h = h v
goes_on_value P (Err why) f h = tt

goes_on_choice : (P : Scene → Type 0) (c : Bool) (r q : Result Scene Reason) → IfGoesOn P r → IfGoesOn P q → IfGoesOn P (if c then r else q)
goes_on_choice P true r q f g = f
goes_on_choice P false r q f g = g

goes_on_repeated : (P : Scene → Type 0) (n : ℕ) (act : Action) (s : Scene) → P s → ((t : Scene) → P t → IfGoesOn P (act t)) → IfGoesOn P (repeated n act s)
goes_on_repeated P zero act s h step = h
goes_on_repeated P (suc n) act s h step = goes_on_then P P (act s) (repeated n act) (step s h) (λ t k. goes_on_repeated P n act t k step)

-- the number of records
abbrev HasLength : ℕ → Scene → Type 0
HasLength n s = length s.records ≡ n

mutual
  keeps_length : (n : ℕ) (st : Stmt) (s : Scene) → HasLength n s → IfGoesOn (HasLength n) (effect st s)
  keeps_length n (Let i e) s h =
      goes_on_value (HasLength n) (value_of e s) (λ v. Ok (record s { locals = slice_set s.locals i v })) (λ v. h)
  keeps_length n (Set i e) s h =
      goes_on_value (HasLength n) (value_of e s) (λ v. Ok (record s { records = slice_set s.records (slice_index s.named i) v })) (λ v. rw length-set h)
  keeps_length n (If' e k first l second) s h =
      goes_on_value (HasLength n) (value_of e s) (λ v. if v == 0 then list_effect second s else list_effect first s)
      (λ v. goes_on_choice (HasLength n) (v == 0) (list_effect second s) (list_effect first s) (list_keeps_length n second s h) (list_keeps_length n first s h))
  keeps_length n (Abort code) s h = tt
  keeps_length n (Reply e) s h =
      goes_on_value (HasLength n) (value_of e s) (λ v. Ok (record s { outputs = s.outputs ++ v ∷ [] })) (λ v. h)
  keeps_length n (Repeat' turns k list) s h =
      goes_on_repeated (HasLength n) turns (list_effect list) s h (λ t same. list_keeps_length n list t same)

  list_keeps_length : {m : _} → (n : ℕ) (row : Row_of-Stmt m) (s : Scene) → HasLength n s → IfGoesOn (HasLength n) (list_effect row s)
  list_keeps_length n end_of-Stmt s h = h
  list_keeps_length n (more_of-Stmt st rest) s h =
      goes_on_then (HasLength n) (HasLength n) (effect st s) (list_effect rest) (keeps_length n st s h) (λ t k. list_keeps_length n rest t k)

all_keep_length : (n : ℕ) (sts : List Stmt) (s : Scene) → HasLength n s → IfGoesOn (HasLength n) (in_turn (map effect sts) s)
all_keep_length n [] s h = h
all_keep_length n (st ∷ sts) s h =
    goes_on_then (HasLength n) (HasLength n) (effect st s) (in_turn (map effect sts)) (keeps_length n st s h) (λ t k. all_keep_length n sts t k)

pub length-ended : (n : ℕ) (sts : List Stmt) (s t : Scene) → length s.records ≡ n → in_turn (map effect sts) s ≡ Ok t → length t.records ≡ n
length-ended n sts s t h is = rw is at (all_keep_length n sts s h)

-- a body begins at its scene, if it begins
begins : (P : Scene → Type 0) (p : Proc) (c : Call) (s : Scene) → P s → IfGoesOn P (unless_moved p c s)
begins P p c s h = goes_on_choice P (has_moved (source_of p.keys) c.found s) (Err Moved) (Ok s) tt h

pub length-applied : (p : Proc) (c : Call) (records : List ℕ) → length (applied p c records).records ≡ length records
length-applied p c records =
    ended (body p c records)
    (goes_on_then (HasLength (length records)) (HasLength (length records)) (unless_moved p c (opening_scene p c records)) (in_turn (map effect p.body))
    (begins (HasLength (length records)) p c (opening_scene p c records) refl) (λ s h. all_keep_length (length records) p.body s h))
  where
    ended : (r : Result Scene Reason) → IfGoesOn (HasLength (length records)) r → length (after records r).records ≡ length records
    ended (Ok s) h = h
    ended (Err why) h = refl

-- one record's value, while the key positions name what they named
record StaysAt (r v : ℕ) (named : List ℕ) (s : Scene) : Type 0 where
  pub value : slice_index s.records r ≡ v
  pub names : s.named ≡ named

-- none of the key positions that may be set names the record
NamesNot : (r : ℕ) (keys : List KeyDecl) (named : List ℕ) → Type 0
NamesNot r keys named = (i : ℕ) → nat_lt i (length keys) ≡ true → is_not_read (slice_get keys i) ≡ true → slice_index named i ≢ r

-- what a statement sets is known, and may be set
abbrev IsAllowed : List KeyDecl → ((Expr → Bool) → (Stmt → Bool) → Bool) → Type 0
IsAllowed keys all = (all (key_is_below (length keys)) (set_is_below (length keys)) ≡ true) × (all any_leaf (sets_no_read_key keys) ≡ true)

mutual
  unfolding NamesNot

  keeps_value : (r v : ℕ) (keys : List KeyDecl) (named : List ℕ) (st : Stmt) (s : Scene) → NamesNot r keys named → IsAllowed keys (λ leaf test. throughout leaf test st)
      → StaysAt r v named s → IfGoesOn (StaysAt r v named) (effect st s)
  keeps_value r v keys named (Let i e) s apart k h =
      goes_on_value (StaysAt r v named) (value_of e s) (λ x. Ok (record s { locals = slice_set s.locals i x })) (λ x. record { value = h.value; names = h.names })
  keeps_value r v keys named (Set i e) s apart k h =
      let other : slice_index s.named i ≢ r = rw h.names (apart i (both_true _ _ k.0).0 (both_true _ _ k.1).0) in
      goes_on_value (StaysAt r v named) (value_of e s) (λ x. Ok (record s { records = slice_set s.records (slice_index s.named i) x }))
      (λ x. record { value = get_or-set_other s.records (slice_index s.named i) r x 0 (λ e. other (sym e)) ∙ h.value; names = h.names })
  keeps_value r v keys named (If' e m first n second) s apart k h =
      let known = both_true _ _ k.0 in
      let writable = both_true _ _ k.1 in
      goes_on_value (StaysAt r v named) (value_of e s) (λ x. if x == 0 then list_effect second s else list_effect first s)
      (λ x. goes_on_choice (StaysAt r v named) (x == 0) (list_effect second s) (list_effect first s)
      (list_keeps_value r v keys named second s apart (known.1, writable.1) h)
      (list_keeps_value r v keys named first s apart ((both_true _ _ known.0).1, (both_true _ _ writable.0).1) h))
  keeps_value r v keys named (Abort code) s apart k h = tt
  keeps_value r v keys named (Reply e) s apart k h =
      goes_on_value (StaysAt r v named) (value_of e s) (λ x. Ok (record s { outputs = s.outputs ++ x ∷ [] })) (λ x. record { value = h.value; names = h.names })
  keeps_value r v keys named (Repeat' turns m list) s apart k h =
      goes_on_repeated (StaysAt r v named) turns (list_effect list) s h (λ t stays. list_keeps_value r v keys named list t apart k stays)

  list_keeps_value : {m : _} → (r v : ℕ) (keys : List KeyDecl) (named : List ℕ) (row : Row_of-Stmt m) (s : Scene) → NamesNot r keys named → IsAllowed keys (λ leaf test. list_throughout leaf test row)
      → StaysAt r v named s → IfGoesOn (StaysAt r v named) (list_effect row s)
  list_keeps_value r v keys named end_of-Stmt s apart k h = h
  list_keeps_value r v keys named (more_of-Stmt st rest) s apart k h =
      let known = both_true _ _ k.0 in
      let writable = both_true _ _ k.1 in
      goes_on_then (StaysAt r v named) (StaysAt r v named) (effect st s) (list_effect rest) (keeps_value r v keys named st s apart (known.0, writable.0) h)
      (λ t more. list_keeps_value r v keys named rest t apart (known.1, writable.1) more)

all_keep_value : (r v : ℕ) (keys : List KeyDecl) (named : List ℕ) (sts : List Stmt) (s : Scene) → NamesNot r keys named → IsAllowed keys (λ leaf test. list_all (throughout leaf test) sts)
    → StaysAt r v named s → IfGoesOn (StaysAt r v named) (in_turn (map effect sts) s)
all_keep_value r v keys named [] s apart k h = h
all_keep_value r v keys named (st ∷ sts) s apart k h =
    let known = both_true _ _ k.0 in
    let writable = both_true _ _ k.1 in
    goes_on_then (StaysAt r v named) (StaysAt r v named) (effect st s) (in_turn (map effect sts)) (keeps_value r v keys named st s apart (known.0, writable.0) h)
    (λ t more. all_keep_value r v keys named sts t apart (known.1, writable.1) more)

-- a record that some position asks to write is claimed for writing
stronger_write : (o : Option Mode) → stronger_of Write o ≡ Some Write
stronger_write None = refl
stronger_write (Some m) = refl

to_write : (m : Mode) → stronger_of m (Some Write) ≡ Some Write
to_write Read = refl
to_write Write = refl

mode_on-written : (f : KeyDecl → Claim) (keys : List KeyDecl) (k : ℕ) (d : KeyDecl) → k < length keys → (f (get_or keys k d)).mode ≡ Write → mode_on (map f keys) (f (get_or keys k d)).id ≡ Some Write
mode_on-written f [] k d lt w = absurd (omega arith)
mode_on-written f (x ∷ xs) zero d lt w =
    cond-true ((f x).id == (f x).id) _ _ (eq-eqb (f x).id (f x).id refl) ∙ ap (λ m. stronger_of m (mode_on (map f xs) (f x).id)) w ∙ stronger_write (mode_on (map f xs) (f x).id)
mode_on-written f (x ∷ xs) (suc k) d lt w =
    by_first (f (get_or xs k d)).id ((f x).id == (f (get_or xs k d)).id) (mode_on-written f xs k d (omega arith) w)
  where
    by_first : (r : ℕ) (same : Bool) → mode_on (map f xs) r ≡ Some Write → (if same then stronger_of (f x).mode (mode_on (map f xs) r) else mode_on (map f xs) r) ≡ Some Write
    by_first r true rest = ap (stronger_of (f x).mode) rest ∙ to_write (f x).mode
    by_first r false rest = rest

written : (o : Option KeyDecl) (d : KeyDecl) → o ≡ Some d → is_not_read o ≡ true → d.mode ≡ Write
written o d is h = by_mode d.mode (rw is at h)
  where
    by_mode : (m : Mode) → elim m [ Read ↦ false | Write ↦ true ] ≡ true → m ≡ Write
    by_mode Read h = absurd (false≢true h)
    by_mode Write h = refl

-- a key position that may be set claims its record for writing
claimed_for_writing : (p : Proc) (c : Call) (records : List ℕ) → IsWellFormed p → IsCallOf (length records) p c → (k : ℕ) → k < length p.keys → is_not_read (slice_get p.keys k) ≡ true
    → mode_on c.claims (slice_index (map (λ (d : KeyDecl). found_at records (record_named (length records) c.args c.found d.at)) p.keys) k) ≡ Some Write
claimed_for_writing p c records formed made k lt free =
    let n : ℕ = length records in
    let args : List ℕ = take c.arg_count c.args in
    let mode : (get_or p.keys k some_key).mode ≡ Write = written (slice_get p.keys k) (get_or p.keys k some_key) (slice_get-get_or p.keys k some_key lt) free in
    rw (key_record p c records formed made k lt, claims_named n p c formed made)
    (mode_on-claims_of (map (claim_named n args c.found) p.keys) (number_named n args c.found (get_or p.keys k some_key))
    ∙ mode_on-written (claim_named n args c.found) p.keys k some_key lt mode)

pub slice_index-applied : (p : Proc) (c : Call) (records : List ℕ) → IsWellFormed p → IsCallOf (length records) p c → (r : ℕ) → mode_on c.claims r ≢ Some Write
    → slice_index (applied p c records).records r ≡ slice_index records r
unfolding NamesNot
slice_index-applied p c records formed made r free =
    let named : List ℕ = map (λ (d : KeyDecl). found_at records (record_named (length records) c.args c.found d.at)) p.keys in
    let apart : NamesNot r p.keys named = λ k lt writable e. free (ap (mode_on c.claims) (sym e) ∙ claimed_for_writing p c records formed made k (ltb-true k (length p.keys) lt) writable) in
    ended (body p c records)
    (goes_on_then (StaysAt r (slice_index records r) named) (StaysAt r (slice_index records r) named) (unless_moved p c (opening_scene p c records)) (in_turn (map effect p.body))
    (begins (StaysAt r (slice_index records r) named) p c (opening_scene p c records) (record { value = refl; names = refl }))
    (λ s h. all_keep_value r (slice_index records r) p.keys named p.body s apart (formed.known_keys, formed.writable_keys) h))
  where
    ended : (q : Result Scene Reason) → IfGoesOn (StaysAt r (slice_index records r) (map (λ (d : KeyDecl). found_at records (record_named (length records) c.args c.found d.at)) p.keys)) q → slice_index (after records q).records r ≡ slice_index records r
    ended (Ok s) h = h.value
    ended (Err why) h = refl
