-- The lowest ticket that is yet to store a record, and the value that it gives.
use Rattle.std.proofs.Common.{◌≡◌, ℕ, zero, suc, Bool, true, false, ◌==◌, ◌&&◌, not, refl, sym, arith, ◌<◌, ◌≤◌, ◌+◌, List, [], ◌∷◌, length, drop, ap, ◌∙◌, subst, slice_get, slice_set, Some, cond, slice_index, ◌-◌}
use Rattle.vll_core.proofs.Common.{same_Some, position_or_len, list_any, enumerate_from, with_entry, Base, Entered, State, made, writes, records_before, is_aborted, entered, will_store, unstored, value, before, Made, apply, Claim, Status}
use Rattle.vll_core.proofs.Tests.{at_least}
use Rattle.vll_core.proofs.Places.{entry_at}
use Rattle.vll_core.proofs.SerialRun.{unchanged, made_at, map_set}

-- the first place that passes a test: none before it does, and it does unless it is the length
pub below_first : (p : ℕ × Entered → Bool) (es : List Entered) (k v : ℕ) (e : Entered) → v < position_or_len p (enumerate_from k es) → slice_get es v ≡ Some e → p (k + v, e) ≡ false
below_first p [] k v e below at = absurd (cc at)
below_first p (x ∷ xs) k v e below at = step (p (k, x)) refl (λ w. below_first p xs (k + 1) w e) v below at
  where
    step : (b : Bool) → p (k, x) ≡ b → ((w : ℕ) → w < position_or_len p (enumerate_from (k + 1) xs) → slice_get xs w ≡ Some e → p ((k + 1) + w, e) ≡ false)
        → (v : ℕ) → v < cond (not b) (1 + position_or_len p (enumerate_from (k + 1) xs)) 0 → slice_get (x ∷ xs) v ≡ Some e → p (k + v, e) ≡ false
    step true is ih v below at = absurd (omega arith)
    step false is ih zero below at = subst (λ (d : Entered). p (k + 0, d) ≡ false) (same_Some x e at) (ap (λ n. p (n, x)) (let z : k + 0 ≡ k = omega arith in z) ∙ is)
    step false is ih (suc v) below at = ap (λ n. p (n, e)) (let z : k + suc v ≡ (k + 1) + v = omega arith in z) ∙ ih v (omega arith) at

abbrev pub First : (ℕ × Entered → Bool) → List Entered → ℕ → ℕ → Type 0
First p es k n = (e : Entered) × (slice_get es n ≡ Some e) × (p (k + n, e) ≡ true)

pub at_first : (p : ℕ × Entered → Bool) (es : List Entered) (k : ℕ) → position_or_len p (enumerate_from k es) < length es → First p es k (position_or_len p (enumerate_from k es))
at_first p [] k below = absurd (omega arith)
at_first p (x ∷ xs) k below = step (p (k, x)) refl (at_first p xs (k + 1)) below
  where
    step : (b : Bool) → p (k, x) ≡ b
        → (position_or_len p (enumerate_from (k + 1) xs) < length xs → First p xs (k + 1) (position_or_len p (enumerate_from (k + 1) xs)))
        → cond (not b) (1 + position_or_len p (enumerate_from (k + 1) xs)) 0 < length (x ∷ xs) → First p (x ∷ xs) k (cond (not b) (1 + position_or_len p (enumerate_from (k + 1) xs)) 0)
    step true is ih below = (x, refl, ap (λ n. p (n, x)) (let z : k + 0 ≡ k = omega arith in z) ∙ is)
    step false is ih below =
        let n : ℕ = position_or_len p (enumerate_from (k + 1) xs) in
        let r : First p xs (k + 1) n = ih (omega arith) in
        subst (First p (x ∷ xs) k) (let z : suc n ≡ 1 + n = omega arith in z) (r.0, r.1, ap (λ m. p (m, r.0)) (let z : k + suc n ≡ (k + 1) + n = omega arith in z) ∙ r.2)

pub first_le : (p : ℕ × Entered → Bool) (es : List Entered) (k : ℕ) → position_or_len p (enumerate_from k es) ≤ length es
first_le p [] k = omega arith
first_le p (x ∷ xs) k = step (p (k, x)) (first_le p xs (k + 1))
  where
    step : (b : Bool) → position_or_len p (enumerate_from (k + 1) xs) ≤ length xs → cond (not b) (1 + position_or_len p (enumerate_from (k + 1) xs)) 0 ≤ length (x ∷ xs)
    step true h = omega arith
    step false h = omega arith

-- a ticket that is yet to store a record is not below the lowest
pub will_here : (o : Base) (s : State) (r t : ℕ) (e : Entered) → slice_get s.entries t ≡ Some e → will_store o s r (t, e) ≡ true → unstored o s r ≤ t
will_here o s r t e at will = at_least t (unstored o s r) (λ low.
    cc (sym (below_first (will_store o s r) s.entries 0 t e low at) ∙ (ap (λ n. will_store o s r (n, e)) (let z : 0 + t ≡ t = omega arith in z) ∙ will)))

-- where no ticket below n is yet to store a record, the lowest is not below n
pub not_before : (o : Base) (s : State) (r n : ℕ) → n ≤ length s.entries → ((v : ℕ) (d : Entered) → v < n → slice_get s.entries v ≡ Some d → will_store o s r (v, d) ≡ false) → n ≤ unstored o s r
not_before o s r n within none = at_least (unstored o s r) n (λ low.
    let first = at_first (will_store o s r) s.entries 0 (let w : unstored o s r < length s.entries = omega (arith, low, within) in w) in
    cc (sym (none (unstored o s r) first.0 low first.1) ∙ (ap (λ m. will_store o s r (m, first.0)) (let z : unstored o s r ≡ 0 + unstored o s r = omega arith in z) ∙ first.2)))

-- a value is that before a ticket, where no ticket from there to the first that is yet to store it changes the record
pub value_from : (o : Base) (s : State) (r n : ℕ) → n ≤ unstored o s r
    → ((v : ℕ) (d : Entered) → n ≤ v → v < unstored o s r → slice_get s.entries v ≡ Some d → will_store o s r (v, d) ≡ false → slice_index (apply o.procs d.call (records_before o s v)).records r ≡ slice_index (records_before o s v) r)
    → value o s r ≡ slice_index (records_before o s n) r
value_from o s r n low stays =
    let u : ℕ = unstored o s r in
    let within : u ≤ length s.entries = first_le (will_store o s r) s.entries 0 in
    ap (λ m. slice_index (records_before o s m) r) (let z : u ≡ n + (u - n) = omega (arith, low) in z)
    ∙ unchanged o.procs (entered s) o.records r n (u - n) (λ v above below.
    let under : v < u = omega (arith, low, above, below) in
    let d = entry_at s.entries v (omega (arith, under, within)) in (
      made d.0,
      made_at s.entries v d.0 d.1,
      stays v d.0 above under d.1 (ap (λ m. will_store o s r (m, d.0)) (let z : v ≡ 0 + v = omega arith in z) ∙ below_first (will_store o s r) s.entries 0 v d.0 under d.1),
    ))

same_step : (a b : Bool) (m n : ℕ) → a ≡ b → m ≡ n → cond (not a) (1 + m) 0 ≡ cond (not b) (1 + n) 0
same_step a b m n h g = rw (h, g) refl

same_rest : (p q : ℕ × Entered → Bool) (es : List Entered) (k : ℕ) → ((v : ℕ) (d : Entered) → q (v, d) ≡ p (v, d)) → position_or_len q (enumerate_from k es) ≡ position_or_len p (enumerate_from k es)
same_rest p q [] k all = refl
same_rest p q (x ∷ es) k all = same_step _ _ _ _ (all k x) (same_rest p q es (k + 1) all)

-- the first place that passes a test, where one entry is replaced by one that passes as it did
first_same : (p q : ℕ × Entered → Bool) (es : List Entered) (k t : ℕ) (e f : Entered) → slice_get es t ≡ Some e → q (k + t, f) ≡ p (k + t, e) → ((v : ℕ) (d : Entered) → q (v, d) ≡ p (v, d))
    → position_or_len q (enumerate_from k (slice_set es t f)) ≡ position_or_len p (enumerate_from k es)
first_same p q [] k t e f at here all = refl
first_same p q (x ∷ es) k zero e f at here all =
    same_step _ _ _ _ (ap (λ n. q (n, f)) (let z : k ≡ k + 0 = omega arith in z) ∙ (here ∙ (ap (λ n. p (n, e)) (let z : k + 0 ≡ k = omega arith in z) ∙ ap (λ d. p (k, d)) (sym (same_Some x e at)))))
    (same_rest p q es (k + 1) all)
first_same p q (x ∷ es) k (suc t) e f at here all =
    same_step _ _ _ _ (all k x) (first_same p q es (k + 1) t e f at (ap (λ n. q (n, f)) (let z : (k + 1) + t ≡ k + suc t = omega arith in z) ∙ (here ∙ ap (λ n. p (n, e)) (let z : k + suc t ≡ (k + 1) + t = omega arith in z))) all)

-- an entry of the same call that is to store a record as before leaves the record's value
pub value_replaced : (o : Base) (s : State) (t : ℕ) (e f : Entered) (r : ℕ) → slice_get s.entries t ≡ Some e → made f ≡ made e → will_store o s r (t, f) ≡ will_store o s r (t, e)
    → value o (with_entry s t f) r ≡ value o s r
value_replaced o s t e f r at same here =
    let s' : State = with_entry s t f in
    let calls : entered s' ≡ entered s = map_set s.entries t e f at same in
    let will : (v : ℕ) (d : Entered) → will_store o s' r (v, d) ≡ will_store o s r (v, d) =
    λ v d. ap (λ (ms : List Made). list_any (λ (c : Claim). c.id == r) (drop d.stores (writes d.call)) && not ((d.loads == length d.call.claims) && is_aborted (apply o.procs d.call (before o.procs ms o.records v)).reply)) calls in
    let place : unstored o s' r ≡ unstored o s r = first_same (will_store o s r) (will_store o s' r) s.entries 0 t e f at (will (0 + t) f ∙ (at_zero f ∙ (here ∙ sym (at_zero e)))) will in
    ap (λ n. slice_index (records_before o s' n) r) place ∙ ap (λ (ms : List Made). slice_index (before o.procs ms o.records (unstored o s r)) r) calls
  where
    at_zero : (d : Entered) → will_store o s r (0 + t, d) ≡ will_store o s r (t, d)
    at_zero d = ap (λ n. will_store o s r (n, d)) (let z : 0 + t ≡ t = omega arith in z)

-- an entry with another status and other releases leaves every value
pub value_same : (o : Base) (s : State) (t : ℕ) (e : Entered) (status : Status) (releases r : ℕ) → slice_get s.entries t ≡ Some e
    → value o (with_entry s t (record e { status = status; releases = releases })) r ≡ value o s r
value_same o s t e status releases r at = value_replaced o s t e (record e { status = status; releases = releases }) r at refl refl
