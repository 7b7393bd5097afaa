-- What an entry's claims meet among the marks of the entries before it is what holds it back; and marks that are
-- taken back are gone.
use Rattle.std.proofs.Common.{◌≡◌, ℕ, zero, suc, ◌+◌, ◌<◌, Bool, true, false, not, cond, ◌&&◌, ◌||◌, ◌==◌, List, [], ◌∷◌, ◌++◌, length, map, take, get_or, set, slice_get, Some, None, refl, sym, ap, ap₂, ◌∙◌, subst, arith, length-set, get_or-set_same, get_or-set_other, eq-eqb, ne_eqb, inl, inr}
use Rattle.vll_sca.proofs.Common.{All, list_any, filter, cases_eq, map-append, append_assoc, take_more, slice_get_within, get_or_from_slice_get, none-some, same_Some, Claim, Mode, Read, Write, is_write, conflicts, conflict, Entry, ClaimMarks, Status, is_gone, hashed, holds_back, HasRoom, IsClear, meets, with_bits, written, read, with_claims, claims_left}
use Rattle.std.specs.Option.{option_map}
use Rattle.std.proofs.lemmas.List.Elements.{All-from_get_or}

-- ---- one of a list passes a test

pub or_false : (b : Bool) → (b || false) ≡ b
or_false true = refl
or_false false = refl

or_assoc : (a b c : Bool) → (a || (b || c)) ≡ ((a || b) || c)
or_assoc true b c = refl
or_assoc false b c = refl

or_swap : (a b c d : Bool) → ((a || b) || (c || d)) ≡ ((a || c) || (b || d))
or_swap true b c d = refl
or_swap false true true d = refl
or_swap false true false d = refl
or_swap false false c d = refl

pub any-append : {X : Type 0} (p : X → Bool) (xs ys : List X) → list_any p (xs ++ ys) ≡ (list_any p xs || list_any p ys)
any-append p [] ys = refl
any-append p (x ∷ xs) ys = ap (λ b. p x || b) (any-append p xs ys) ∙ or_assoc (p x) (list_any p xs) (list_any p ys)

any_of_none : {X : Type 0} (xs : List X) → list_any (λ x. false) xs ≡ false
any_of_none [] = refl
any_of_none (x ∷ xs) = any_of_none xs

any_or : {X : Type 0} (p q : X → Bool) (xs : List X) → list_any (λ x. p x || q x) xs ≡ (list_any p xs || list_any q xs)
any_or p q [] = refl
any_or p q (x ∷ xs) = ap (λ b. (p x || q x) || b) (any_or p q xs) ∙ or_swap (p x) (q x) (list_any p xs) (list_any q xs)

-- some pair passes, whichever list is walked first
any_swap : {X Y : Type 0} (r : X → Y → Bool) (xs : List X) (ys : List Y)
    → list_any (λ y. list_any (λ x. r x y) xs) ys ≡ list_any (λ x. list_any (r x) ys) xs
any_swap r [] ys = any_of_none ys
any_swap r (x ∷ xs) ys = any_or (r x) (λ y. list_any (λ z. r z y) xs) ys ∙ ap (λ b. list_any (r x) ys || b) (any_swap r xs ys)

-- two tests that agree on what h gives
any_map-same : {X Y : Type 0} (h : X → Y) (p q : Y → Bool) (xs : List X) → ((x : X) → p (h x) ≡ q (h x)) → list_any p (map h xs) ≡ list_any q (map h xs)
any_map-same h p q [] same = refl
any_map-same h p q (x ∷ xs) same = ap₂ (λ a b. a || b) (same x) (any_map-same h p q xs same)

-- ---- bits at places

pub length-with_bits : (b : Bool) (ks : List ℕ) (bits : List Bool) → length (with_bits b ks bits) ≡ length bits
length-with_bits b [] bits = refl
length-with_bits b (k ∷ ks) bits = length-with_bits b ks (set bits k b) ∙ length-set bits k b

with_bits-append : (b : Bool) (js ks : List ℕ) (bits : List Bool) → with_bits b (js ++ ks) bits ≡ with_bits b ks (with_bits b js bits)
with_bits-append b [] ks bits = refl
with_bits-append b (j ∷ js) ks bits = with_bits-append b js ks (set bits j b)

set_one : (b : Bool) (j k : ℕ) (bits : List Bool) → k < length bits → get_or (set bits j b) k false ≡ cond (j == k) b (get_or bits k false)
set_one b j k bits within =
    elim (cases_eq j k) [
      | inl same ↦ rw (eq-eqb j k same) (subst (λ i. get_or (set bits i b) k false ≡ b) (sym same) (get_or-set_same bits k b false within))
      | inr other ↦ rw (ne_eqb j k other) (get_or-set_other bits j k b false (λ e. other (sym e)))
    ]

later_wins : (b e t old : Bool) → cond t b (cond e b old) ≡ cond (e || t) b old
later_wins b true true old = refl
later_wins b true false old = refl
later_wins b false t old = refl

-- a bit is b where its place is among these, and else what it was
get_or-with_bits : (b : Bool) (ks : List ℕ) (bits : List Bool) (k : ℕ) → k < length bits
    → get_or (with_bits b ks bits) k false ≡ cond (list_any (λ j. j == k) ks) b (get_or bits k false)
get_or-with_bits b [] bits k within = refl
get_or-with_bits b (j ∷ ks) bits k within =
    get_or-with_bits b ks (set bits j b) k (rw length-set within)
    ∙ ap (λ old. cond (list_any (λ i. i == k) ks) b old) (set_one b j k bits within)
    ∙ later_wins b (j == k) (list_any (λ i. i == k) ks) (get_or bits k false)

marked_then_not : (t old : Bool) → old ≡ false → cond t false (cond t true old) ≡ false
marked_then_not true old clear = refl
marked_then_not false old clear = clear

-- bits that are marked and then cleared are clear, if all were clear before
cleared : (ks : List ℕ) (bits : List Bool) → All (λ b. b ≡ false) bits → All (λ b. b ≡ false) (with_bits false ks (with_bits true ks bits))
cleared ks bits clear =
    All-from_get_or (λ b. b ≡ false) _ false
    (λ k within.
    let marked : k < length (with_bits true ks bits) = rw length-with_bits at within in
    let before : k < length bits = rw length-with_bits at marked in
    get_or-with_bits false ks (with_bits true ks bits) k marked
    ∙ ap (λ old. cond (list_any (λ j. j == k) ks) false old) (get_or-with_bits true ks bits k before)
    ∙ marked_then_not (list_any (λ j. j == k) ks) (get_or bits k false) (clear k false before))

marked_or_not : (t old : Bool) → old ≡ false → cond t true old ≡ t
marked_or_not true old clear = refl
marked_or_not false old clear = clear

-- where nothing was marked, the marked places are these
marked_is : (ks : List ℕ) (bits : List Bool) (k : ℕ) → All (λ b. b ≡ false) bits → k < length bits
    → get_or (with_bits true ks bits) k false ≡ list_any (λ j. j == k) ks
marked_is ks bits k clear within =
    get_or-with_bits true ks bits k within ∙ marked_or_not (list_any (λ j. j == k) ks) (get_or bits k false) (clear k false within)

-- ---- marks of claims

kept_or_not : {X : Type 0} (b : Bool) (x : X) (zs xs ys : List X) → zs ≡ xs ++ ys → cond b (x ∷ zs) zs ≡ cond b (x ∷ xs) xs ++ ys
kept_or_not true x zs xs ys e = ap (λ ws. x ∷ ws) e
kept_or_not false x zs xs ys e = e

filter-append : {X : Type 0} (p : X → Bool) (xs ys : List X) → filter p (xs ++ ys) ≡ filter p xs ++ filter p ys
filter-append p [] ys = refl
filter-append p (x ∷ xs) ys = kept_or_not (p x) x _ (filter p xs) (filter p ys) (filter-append p xs ys)

pub with_claims-append : (b : Bool) (xs ys : List Claim) (m : ClaimMarks) → with_claims b (xs ++ ys) m ≡ with_claims b ys (with_claims b xs m)
with_claims-append b xs ys m =
    let split = λ (p : Claim → Bool) (bits : List Bool).
    ap (λ ks. with_bits b ks bits) (ap (map (λ (c : Claim). c.id)) (filter-append p xs ys) ∙ map-append (λ (c : Claim). c.id) (filter p xs) (filter p ys))
    ∙ with_bits-append b (map (λ (c : Claim). c.id) (filter p xs)) (map (λ (c : Claim). c.id) (filter p ys)) bits in
    ap₂ (λ (ws rs : List Bool). let n : ClaimMarks = record { writes = ws; reads = rs } in n) (split is_write m.writes) (split (λ c. not (is_write c)) m.reads)

pub HasRoom-with_claims : (b : Bool) (cs : List Claim) (n : ℕ) (m : ClaimMarks) → HasRoom n m → HasRoom n (with_claims b cs m)
HasRoom-with_claims b cs n m room = record {
  some = room.some;
  writes = rw length-with_bits room.writes;
  reads = rw length-with_bits room.reads;
}

-- what was marked and is taken back is clear
pub IsClear-taken_back : (cs : List Claim) (m : ClaimMarks) → IsClear m → IsClear (with_claims false cs (with_claims true cs m))
IsClear-taken_back cs m clear = record {
  writes = cleared (written cs) m.writes clear.writes;
  reads = cleared (read cs) m.reads clear.reads;
}

write_step : (e w a b r : Bool) → (a || (w && b)) ≡ r → ((e || a) || (w && b)) ≡ ((e && (true || w)) || r)
write_step true w a b r h = refl
write_step false w a b r h = h

read_step : (e w a b r : Bool) → (a || (w && b)) ≡ r → (a || (w && (e || b))) ≡ ((e && (false || w)) || r)
read_step true true true b r h = refl
read_step true true false b r h = refl
read_step true false a b r h = h
read_step false w a b r h = h

and_false : (b : Bool) → (b && false) ≡ false
and_false true = refl
and_false false = refl

-- a claim is on the place of a Write claim, or is a Write claim on that of a Read claim
abbrev IsAmong : List Claim → Claim → Bool
IsAmong cs y = list_any (λ j. j == y.id) (written cs) || (is_write y && list_any (λ j. j == y.id) (read cs))

among_by : (k : ℕ) (m : Mode) (cs : List Claim) (y : Claim) → IsAmong cs y ≡ list_any (λ x. conflicts x y) cs
    → IsAmong (record { id = k; mode = m } ∷ cs) y ≡ list_any (λ x. conflicts x y) (record { id = k; mode = m } ∷ cs)
among_by k Read cs y h = read_step (k == y.id) (is_write y) (list_any (λ j. j == y.id) (written cs)) (list_any (λ j. j == y.id) (read cs)) _ h
among_by k Write cs y h = write_step (k == y.id) (is_write y) (list_any (λ j. j == y.id) (written cs)) (list_any (λ j. j == y.id) (read cs)) _ h

-- which means that it conflicts with one of the claims
among_is_conflict : (cs : List Claim) (y : Claim) → IsAmong cs y ≡ list_any (λ x. conflicts x y) cs
among_is_conflict [] y = and_false (is_write y)
among_is_conflict (x ∷ cs) y = among_by x.id x.mode cs y (among_is_conflict cs y)

-- where nothing was marked, a claim meets the marks of the claims that it is in conflict with
meets_marked : (cs : List Claim) (y : Claim) (n : ℕ) (m : ClaimMarks) → IsClear m → HasRoom n m → y.id < n
    → meets (with_claims true cs m) y ≡ list_any (λ x. conflicts x y) cs
meets_marked cs y n m clear room within =
    ap₂ (λ a b. a || (is_write y && b))
    (marked_is (written cs) m.writes y.id clear.writes (let h = room.writes in omega arith))
    (marked_is (read cs) m.reads y.id clear.reads (let h = room.reads in omega arith))
    ∙ among_is_conflict cs y

conflict-append : (xs ys zs : List Claim) → conflict (xs ++ ys) zs ≡ (conflict xs zs || conflict ys zs)
conflict-append xs ys zs = any-append (λ x. list_any (conflicts x) zs) xs ys

module _ (place : ℕ → ℕ) (bits : ℕ) where
  held_by_one : (gone : Bool) (xs : List Claim) (ys : List Claim) (rest : Bool)
      → ((not gone && conflict (map (hashed place bits) xs) ys) || rest) ≡ (conflict (map (hashed place bits) (cond gone [] xs)) ys || rest)
  held_by_one true xs ys rest = refl
  held_by_one false xs ys rest = refl

  -- an entry is held back where its claims conflict with those of the entries that are left
  held_by_claims : (ds : List Entry) (e : Entry)
      → list_any (λ d. holds_back place bits d e) ds ≡ conflict (map (hashed place bits) (claims_left ds)) (map (hashed place bits) e.claims)
  held_by_claims [] e = refl
  held_by_claims (d ∷ ds) e =
      ap (λ b. holds_back place bits d e || b) (held_by_claims ds e)
      ∙ held_by_one (is_gone d.status) d.claims (map (hashed place bits) e.claims) _
      ∙ sym (ap (λ cs. conflict cs (map (hashed place bits) e.claims)) (map-append (hashed place bits) (cond (is_gone d.status) [] d.claims) (claims_left ds))
      ∙ conflict-append (map (hashed place bits) (cond (is_gone d.status) [] d.claims)) (map (hashed place bits) (claims_left ds)) (map (hashed place bits) e.claims))

  -- the claims of an entry meet a mark of these entries where one of them holds it back
  pub meets_is_held : (ds : List Entry) (e : Entry) (m : ClaimMarks) → IsClear m → HasRoom bits m
      → list_any (meets (with_claims true (map (hashed place bits) (claims_left ds)) m)) (map (hashed place bits) e.claims)
      ≡ list_any (λ d. holds_back place bits d e) ds
  meets_is_held ds e m clear room =
      let h = hashed place bits in
      let cs = map h (claims_left ds) in
      any_map-same h (meets (with_claims true cs m)) (λ y. list_any (λ x. conflicts x y) cs) e.claims
      (λ c. meets_marked cs (h c) bits m clear room (let some = room.some in omega arith))
      ∙ any_swap conflicts cs (map h e.claims)
      ∙ sym (held_by_claims ds e)

pub claims_left-append : (xs ys : List Entry) → claims_left (xs ++ ys) ≡ claims_left xs ++ claims_left ys
claims_left-append [] ys = refl
claims_left-append (x ∷ xs) ys =
    ap (λ cs. cond (is_gone x.status) [] x.claims ++ cs) (claims_left-append xs ys)
    ∙ sym (append_assoc (cond (is_gone x.status) [] x.claims) (claims_left xs) (claims_left ys))

take_next : {X : Type 0} (xs : List X) (i : ℕ) (x : X) → Some x ≡ slice_get xs i → take (i + 1) xs ≡ take i xs ++ x ∷ []
take_next xs i x here =
    let within : i < length xs = slice_get_within xs i x (sym here) in
    take_more xs i x within ∙ ap (λ y. take i xs ++ y ∷ []) (get_or_from_slice_get xs i x x (sym here))

take_past_suc : {X : Type 0} (xs : List X) (i : ℕ) → None ≡ slice_get xs i → take (suc i) xs ≡ take i xs
take_past_suc [] zero past = refl
take_past_suc [] (suc i) past = refl
take_past_suc (x ∷ xs) zero past = absurd (none-some x past)
take_past_suc (x ∷ xs) (suc i) past = ap (λ ys. x ∷ ys) (take_past_suc xs i past)

take_past : {X : Type 0} (xs : List X) (i : ℕ) → None ≡ slice_get xs i → take (i + 1) xs ≡ take i xs
take_past xs i past = subst (λ n. take n xs ≡ take i xs) (let e : suc i ≡ i + 1 = omega arith in e) (take_past_suc xs i past)

module _ (b : Bool) (h : Claim → Claim) (cs : List Claim) (i : ℕ) (before m new : ClaimMarks) (n : ℕ) where
  -- the marks after one more claim
  pub record ClaimMarked : Type 0 where
    pub so_far : new ≡ with_claims b (map h (take (i + 1) cs)) before
    pub room : HasRoom n new

  pub claim_is_marked : (c : Claim) → Some c ≡ slice_get cs i → m ≡ with_claims b (map h (take i cs)) before → HasRoom n m
      → new ≡ with_claims b (h c ∷ []) m → ClaimMarked
  claim_is_marked c here so_far room marked = record {
    so_far = marked ∙ ap (with_claims b (h c ∷ [])) so_far
        ∙ sym (ap (λ ds. with_claims b ds before) (ap (map h) (take_next cs i c here) ∙ map-append h (take i cs) (c ∷ []))
        ∙ with_claims-append b (map h (take i cs)) (h c ∷ []) before);
    room = subst (HasRoom n) (sym marked) (HasRoom-with_claims b (h c ∷ []) n m room);
  }

  -- there is no further claim
  pub no_claim_is_left : None ≡ slice_get cs i → m ≡ with_claims b (map h (take i cs)) before → HasRoom n m → new ≡ m → ClaimMarked
  no_claim_is_left past so_far room same = record {
    so_far = same ∙ so_far ∙ sym (ap (λ ds. with_claims b (map h ds) before) (take_past cs i past));
    room = subst (HasRoom n) (sym same) room;
  }

-- the entry at an index, by its status and its claims
pub entry_at : (es : List Entry) (i : ℕ) (s : Status) (cs : List Claim) → option_map (λ (e : Entry). e.status) (slice_get es i) ≡ Some s → option_map (λ (e : Entry). e.claims) (slice_get es i) ≡ Some cs
    → ◌≡◌ {A = Entry} (record { claims = cs; status = s }) (get_or es i (record { claims = cs; status = s }))
entry_at [] i s cs status claims = absurd (none-some s status)
entry_at (e ∷ es) zero s cs status claims =
    ap₂ (λ (ds : List Claim) (t : Status). let d : Entry = record { claims = ds; status = t } in d) (sym (same_Some e.claims cs claims)) (sym (same_Some e.status s status))
entry_at (e ∷ es) (suc i) s cs status claims = entry_at es i s cs status claims

module _ (b : Bool) (h : Claim → Claim) (es : List Entry) (i : ℕ) (e : Entry) (before m new : ClaimMarks) (n : ℕ) where
  -- the marks after one more entry
  pub record EntryMarked : Type 0 where
    pub so_far : new ≡ with_claims b (map h (claims_left (take (i + 1) es))) before
    pub room : HasRoom n new

  pub entry_is_marked : i < length es → e ≡ get_or es i e → m ≡ with_claims b (map h (claims_left (take i es))) before → HasRoom n m
      → new ≡ with_claims b (map h (claims_left (e ∷ []))) m → EntryMarked
  entry_is_marked within here so_far room marked =
      let more : claims_left (take (i + 1) es) ≡ claims_left (take i es) ++ claims_left (e ∷ []) =
      ap claims_left (take_more es i e within ∙ ap (λ d. take i es ++ d ∷ []) (sym here)) ∙ claims_left-append (take i es) (e ∷ []) in
      record {
        so_far = marked ∙ ap (with_claims b (map h (claims_left (e ∷ [])))) so_far
            ∙ sym (ap (λ ds. with_claims b ds before) (ap (map h) more ∙ map-append h (claims_left (take i es)) (claims_left (e ∷ [])))
            ∙ with_claims-append b (map h (claims_left (take i es))) (map h (claims_left (e ∷ []))) before);
        room = subst (HasRoom n) (sym marked) (HasRoom-with_claims b (map h (claims_left (e ∷ []))) n m room);
      }
