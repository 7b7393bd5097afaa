-- Which records the claims of a call name: rising claims name each record once.
use Rattle.std.proofs.Common.{◌≡◌, ℕ, zero, suc, Bool, true, false, ◌==◌, refl, sym, arith, ◌<◌, ◌≤◌, ◌||◌, ◌+◌, List, [], ◌∷◌, length, drop, ap, ◌∙◌, slice_get, Some, cond, ◌++◌, take, Option, None, filter, if◌then◌else◌, length-append}
use Rattle.vll_core.proofs.Common.{same_Some, list_any, Claim, filter-append, list_any-append, take-append-drop, exact_unsigned_eq, RisesFrom, RisesFrom-zero, is_write, IsRising, conflict, conflicts, mode_on, stronger_of, claims_on, Read, Write, Mode, and_from, or_parts, or_left, or_right}

-- a member that passes a test
pub hit : (p : Claim → Bool) (cs : List Claim) (n : ℕ) (c : Claim) → slice_get cs n ≡ Some c → p c ≡ true → list_any p cs ≡ true
hit p [] n c at h = absurd (cc at)
hit p (x ∷ xs) zero c at h = grind (arith, at, h)
hit p (x ∷ xs) (suc n) c at h = let k = hit p xs n c at h in grind (arith, k)

-- a Write claim on r passes each test that all Write claims on r pass
pub write_hit : (q : Claim → Bool) (cs : List Claim) (r : ℕ) → ((x : Claim) → is_write x ≡ true → (x.id == r) ≡ true → q x ≡ true)
    → list_any (λ (x : Claim). x.id == r) (filter is_write cs) ≡ true → list_any q cs ≡ true
write_hit q [] r all h = h
write_hit q (x ∷ xs) r all h = step (is_write x) (x.id == r) refl refl (write_hit q xs r all) h
  where
    step : (w i : Bool) → is_write x ≡ w → (x.id == r) ≡ i → (list_any (λ (y : Claim). y.id == r) (filter is_write xs) ≡ true → list_any q xs ≡ true)
        → list_any (λ (y : Claim). y.id == r) (cond w (x ∷ filter is_write xs) (filter is_write xs)) ≡ true → (q x || list_any q xs) ≡ true
    step true true w i ih k = or_left (q x) (list_any q xs) (all x w i)
    step true false w i ih k = or_right (q x) (list_any q xs) (ih (sym (ap (λ b. b || list_any (λ (y : Claim). y.id == r) (filter is_write xs)) i) ∙ k))
    step false i w e ih k = or_right (q x) (list_any q xs) (ih k)

-- if an item from a place on passes a test, one of the list passes it
pub drop_any : (p : Claim → Bool) (n : ℕ) (cs : List Claim) → list_any p (drop n cs) ≡ true → list_any p cs ≡ true
drop_any p zero cs h = h
drop_any p (suc n) [] h = h
drop_any p (suc n) (x ∷ xs) h = or_right (p x) (list_any p xs) (drop_any p n xs h)

-- a record that is claimed for writing has a Write claim
pub mode_hit : (r : ℕ) (cs : List Claim) → mode_on cs r ≡ Some Write → list_any (λ (c : Claim). c.id == r) (filter is_write cs) ≡ true
mode_hit r [] h = absurd (cc h)
mode_hit r (c ∷ cs) h = step (c.id == r) c.mode (mode_on cs r) refl refl (mode_hit r cs) h
  where
    later : (b : Bool) → list_any (λ (d : Claim). d.id == r) (filter is_write cs) ≡ true
        → list_any (λ (d : Claim). d.id == r) (cond b (c ∷ filter is_write cs) (filter is_write cs)) ≡ true
    later true k = or_right (c.id == r) _ k
    later false k = k

    write_of : (m : Mode) → m ≡ Write → (elim m [ Read ↦ false | Write ↦ true ]) ≡ true
    write_of m e = rw e refl

    first : (c.id == r) ≡ true → c.mode ≡ Write → list_any (λ (d : Claim). d.id == r) (cond (is_write c) (c ∷ filter is_write cs) (filter is_write cs)) ≡ true
    first same w = ap (λ (b : Bool). list_any (λ (d : Claim). d.id == r) (cond b (c ∷ filter is_write cs) (filter is_write cs))) (write_of c.mode w) ∙ ap (λ b. b || list_any (λ (d : Claim). d.id == r) (filter is_write cs)) same

    step : (same : Bool) (m : Mode) (rest : Option Mode) → (c.id == r) ≡ same → c.mode ≡ m → (rest ≡ Some Write → list_any (λ (d : Claim). d.id == r) (filter is_write cs) ≡ true)
        → (if same then stronger_of m rest else rest) ≡ Some Write → list_any (λ (d : Claim). d.id == r) (cond (is_write c) (c ∷ filter is_write cs) (filter is_write cs)) ≡ true
    step true Write rest same w ih k = first same w
    step true Read None same w ih k = absurd (cc k)
    step true Read (Some m) same w ih k = later (is_write c) (ih k)
    step false m rest same w ih k = later (is_write c) (ih k)

-- a record with a Write claim among these has it at a place
pub record IsClaimedAt (r : ℕ) (cs : List Claim) : Type 0 where
  pub place : ℕ
  pub claim : Claim
  pub at : slice_get cs place ≡ Some claim
  pub names : claim.id ≡ r

-- a record with a Write claim among these has it at a place
pub claimed_at : (r : ℕ) (cs : List Claim) → list_any (λ (c : Claim). c.id == r) (filter is_write cs) ≡ true → IsClaimedAt r cs
claimed_at r [] h = absurd (cc h)
claimed_at r (c ∷ cs) h = step (is_write c) (c.id == r) refl (claimed_at r cs) h
  where
    later : IsClaimedAt r cs → IsClaimedAt r (c ∷ cs)
    later k = record { place = suc k.place; claim = k.claim; at = k.at; names = k.names }

    step : (w i : Bool) → (c.id == r) ≡ i → (list_any (λ (d : Claim). d.id == r) (filter is_write cs) ≡ true → IsClaimedAt r cs)
        → list_any (λ (d : Claim). d.id == r) (cond w (c ∷ filter is_write cs) (filter is_write cs)) ≡ true → IsClaimedAt r (c ∷ cs)
    step true true is rest k = record { place = 0; claim = c; at = refl; names = exact_unsigned_eq c.id r is }
    step true false is rest k = later (rest (ap (λ b. b || list_any (λ (d : Claim). d.id == r) (filter is_write cs)) (sym is) ∙ k))
    step false i is rest k = later (rest k)

-- a Write claim stands among all claims
pub at_filter : (cs : List Claim) (k : ℕ) (c : Claim) → slice_get (filter is_write cs) k ≡ Some c → (n : ℕ) × (slice_get cs n ≡ Some c)
at_filter [] k c at = absurd (cc at)
at_filter (d ∷ ds) k c at = step (is_write d) k (λ j. at_filter ds j c) at
  where
    step : (b : Bool) (j : ℕ) → ((i : ℕ) → slice_get (filter is_write ds) i ≡ Some c → (n : ℕ) × (slice_get ds n ≡ Some c))
        → slice_get (cond b (d ∷ filter is_write ds) (filter is_write ds)) j ≡ Some c → (n : ℕ) × (slice_get (d ∷ ds) n ≡ Some c)
    step true zero rest h = (0, h)
    step true (suc j) rest h = let m = rest j h in (suc m.0, m.1)
    step false j rest h = let m = rest j h in (suc m.0, m.1)

RisesFrom-lower : (m n : ℕ) (cs : List Claim) → m ≤ n → RisesFrom n cs → RisesFrom m cs
RisesFrom-lower m n [] low h = tt
RisesFrom-lower m n (c ∷ cs) low h = (let a = h.0 in omega (arith, a, low), h.1)

-- the Write claims of rising claims rise
pub RisesFrom-writes : (n : ℕ) (cs : List Claim) → RisesFrom n cs → RisesFrom n (filter is_write cs)
RisesFrom-writes n [] h = tt
RisesFrom-writes n (c ∷ cs) h = step (is_write c) (RisesFrom-writes (suc c.id) cs h.1)
  where
    step : (b : Bool) → RisesFrom (suc c.id) (filter is_write cs) → RisesFrom n (cond b (c ∷ filter is_write cs) (filter is_write cs))
    step true rest = (h.0, rest)
    step false rest = RisesFrom-lower n (suc c.id) (filter is_write cs) (let a = h.0 in omega (arith, a)) rest

-- rising claims from n on name no lower record
none_below : (n r : ℕ) (cs : List Claim) → RisesFrom n cs → r < n → list_any (λ (c : Claim). c.id == r) cs ≡ false
none_below n r [] h low = refl
none_below n r (c ∷ cs) h low = step (c.id == r) refl (none_below (suc c.id) r cs h.1 (let a = h.0 in omega (arith, a, low)))
  where
    step : (b : Bool) → (c.id == r) ≡ b → list_any (λ (d : Claim). d.id == r) cs ≡ false → (b || list_any (λ (d : Claim). d.id == r) cs) ≡ false
    step true is rest = absurd (let e = exact_unsigned_eq c.id r is in let a = h.0 in omega (arith, e, a, low))
    step false is rest = rest

-- after a claim no other names its record
pub none_behind : (n : ℕ) (cs : List Claim) (k : ℕ) (c : Claim) → RisesFrom n cs → slice_get cs k ≡ Some c → list_any (λ (d : Claim). d.id == c.id) (drop (suc k) cs) ≡ false
none_behind n [] k c h at = absurd (cc at)
none_behind n (d ∷ ds) zero c h at = none_below (suc d.id) c.id ds h.1 (let e : d.id ≡ c.id = ap (λ (x : Claim). x.id) (same_Some d c at) in omega (arith, e))
none_behind n (d ∷ ds) (suc k) c h at = none_behind (suc d.id) ds k c h.1 at

-- rising claims have at most one on a record
none_on : (n r : ℕ) (cs : List Claim) → RisesFrom n cs → r < n → length (claims_on r cs) ≡ 0
none_on n r [] h low = refl
none_on n r (c ∷ cs) h low = step (c.id == r) refl (λ k. none_on (suc c.id) r cs h.1 k)
  where
    step : (b : Bool) → (c.id == r) ≡ b → (r < suc c.id → length (claims_on r cs) ≡ 0) → length (cond b (c ∷ claims_on r cs) (claims_on r cs)) ≡ 0
    step true is rest = absurd (let e = exact_unsigned_eq c.id r is in let k = h.0 in omega (arith, e, k, low))
    step false is rest = rest (let k = h.0 in omega (arith, k, low))

one_on : (n r : ℕ) (cs : List Claim) → RisesFrom n cs → length (claims_on r cs) ≤ 1
one_on n r [] h = omega arith
one_on n r (c ∷ cs) h = step (c.id == r) refl (one_on (suc c.id) r cs h.1)
  where
    step : (b : Bool) → (c.id == r) ≡ b → length (claims_on r cs) ≤ 1 → length (cond b (c ∷ claims_on r cs) (claims_on r cs)) ≤ 1
    step true is rest = let e = exact_unsigned_eq c.id r is in let z = none_on (suc c.id) r cs h.1 (omega (arith, e)) in omega (arith, z)
    step false is rest = rest

-- rising claims have at most one on a record
pub once : (r : ℕ) (cs : List Claim) → IsRising cs → length (claims_on r cs) ≤ 1
once r cs h = one_on 0 r cs (RisesFrom-zero cs h)

pub on-append : (r : ℕ) (xs ys : List Claim) → length (claims_on r (xs ++ ys)) ≡ length (claims_on r xs) + length (claims_on r ys)
on-append r xs ys = ap length (filter-append (λ (c : Claim). c.id == r) xs ys) ∙ length-append (claims_on r xs) (claims_on r ys)

pub on_part : (n r : ℕ) (cs : List Claim) → length (claims_on r cs) ≡ length (claims_on r (take n cs)) + length (claims_on r (drop n cs))
on_part n r cs = ap (λ xs. length (claims_on r xs)) (sym (take-append-drop n cs)) ∙ on-append r (take n cs) (drop n cs)

-- a Write claim conflicts with each claim on its record
pub meets : (x c : Claim) → is_write x ≡ true → (x.id == c.id) ≡ true → conflicts x c ≡ true
meets x c w i = rw (i, w) refl

-- and each claim on its record with it
pub met_by : (x c : Claim) → is_write x ≡ true → (x.id == c.id) ≡ true → conflicts c x ≡ true
met_by x c w i =
    let same : x.id ≡ c.id = exact_unsigned_eq x.id c.id i in
    rw (sym same, w) (and_from (x.id == x.id) (is_write c || true) (ap (λ n. x.id == n) same ∙ i) (or_right (is_write c) true refl))

-- nothing conflicts with no claims
pub conflict_none : (xs : List Claim) → conflict xs [] ≡ false
conflict_none [] = refl
conflict_none (x ∷ xs) = conflict_none xs

-- what conflicts with neither of two lists conflicts with neither together
pub conflict_both : (xs ys zs : List Claim) → conflict xs ys ≡ false → conflict xs zs ≡ false → conflict xs (ys ++ zs) ≡ false
conflict_both [] ys zs h k = refl
conflict_both (x ∷ xs) ys zs h k =
    let a = or_parts (list_any (conflicts x) ys) (conflict xs ys) h in
    let b = or_parts (list_any (conflicts x) zs) (conflict xs zs) k in
    rw (list_any-append (conflicts x) ys zs, a.0, b.0) (conflict_both xs ys zs a.1 b.1)
