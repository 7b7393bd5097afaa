-- The number of a name, and the procedure that has it.
use Rattle.std.proofs.Common.{◌≡◌, ℕ, zero, suc, ◌+◌, ◌<◌, Bool, true, false, List, [], ◌∷◌, length, get_or, None, Some, slice_get, refl, sym, ap, ◌∙◌, if◌then◌else◌, arith}
use Rattle.vll_check.proofs.Common.{nat_list_eq_equiv, list_any, bytes_eq, get_or_from_slice_get, slice_get_within, Proc, number_from, number_named, has_name_twice}
use Rattle.std.proofs.lemmas.Slice.Eq.{bytes_eq-Decides}
use Rattle.vll_check.proofs.Twice.{first_fails, rest_fails}

-- a procedure with a name stands at a number, where numbers begin at n
record StandsFrom (n : ℕ) (name : List ℕ) (ps : List Proc) (k : ℕ) : Type 0 where
  place : ℕ
  procedure : Proc
  number : k ≡ n + place
  found : slice_get ps place ≡ Some procedure
  named : procedure.name ≡ name

stands_from : (n : ℕ) (name : List ℕ) (ps : List Proc) (k : ℕ) → number_from n name ps ≡ Some k → StandsFrom n name ps k
stands_from n name [] k e = cc
stands_from n name (p ∷ ps) k e = by_test (bytes_eq name p.name) refl (stands_from (suc n) name ps k) e
  where
    by_test : (same : Bool) → bytes_eq name p.name ≡ same → (number_from (suc n) name ps ≡ Some k → StandsFrom (suc n) name ps k) → (if same then Some n else number_from (suc n) name ps) ≡ Some k
        → StandsFrom n name (p ∷ ps) k
    by_test true same behind e =
        let first : n ≡ k = cc in
        record { place = 0; procedure = p; number = omega arith; found = refl; named = sym ((bytes_eq-Decides name p.name).0 same) }
    by_test false other behind e =
        let s = behind e in
        record { place = suc s.place; procedure = s.procedure; number = omega (arith, s.number); found = s.found; named = s.named }

-- a procedure with a name stands at a number
pub record StandsAt (name : List ℕ) (ps : List Proc) (k : ℕ) : Type 0 where
  pub procedure : Proc
  pub found : slice_get ps k ≡ Some procedure
  pub named : procedure.name ≡ name

-- the number of a name is that of a procedure that has it
pub number_named-stands : (name : List ℕ) (ps : List Proc) (k : ℕ) → number_named name ps ≡ Some k → StandsAt name ps k
number_named-stands name ps k e =
    let s = stands_from 0 name ps k e in
    let place : k ≡ s.place = omega (arith, s.number) in
    record { procedure = s.procedure; found = ap (slice_get ps) place ∙ s.found; named = s.named }

none_at : (test : Proc → Bool) (ps : List Proc) (i : ℕ) (p : Proc) → list_any test ps ≡ false → i < length ps → test (get_or ps i p) ≡ false
none_at test [] i p none lt = absurd (omega (arith, lt))
none_at test (q ∷ ps) zero p none lt = first_fails (test q) (list_any test ps) none
none_at test (q ∷ ps) (suc i) p none lt = none_at test ps i p (rest_fails (test q) (list_any test ps) none) (omega (arith, lt))

-- the only procedure with a name
pub number_from-at : (n i : ℕ) (name : List ℕ) (ps : List Proc) (p : Proc) → has_name_twice ps ≡ false → i < length ps → bytes_eq name (get_or ps i p).name ≡ true → number_from n name ps ≡ Some (n + i)
number_from-at n i name [] p once lt same = absurd (omega (arith, lt))
number_from-at n zero name (q ∷ ps) p once lt same =
    ap (λ (b : Bool). if b then Some n else number_from (suc n) name ps) same ∙ ap Some (omega arith)
number_from-at n (suc i) name (q ∷ ps) p once lt same =
    let same_as_first : Proc → Bool = λ r. bytes_eq q.name r.name in
    let other = get_or ps i p in
    let apart : bytes_eq q.name other.name ≡ false = none_at same_as_first ps i p (first_fails (list_any same_as_first ps) (has_name_twice ps) once) (omega (arith, lt)) in
    let first : bytes_eq name q.name ≡ false = nat_list_eq_equiv.congr name other.name q.name same ∙ nat_list_eq_equiv.symm other.name q.name ∙ apart in
    ap (λ (b : Bool). if b then Some n else number_from (suc n) name ps) first
    ∙ number_from-at (suc n) i name ps p (rest_fails (list_any same_as_first ps) (has_name_twice ps) once) (omega (arith, lt)) same
    ∙ ap Some (omega arith)

-- no procedure with a name
pub number_from-none : (n : ℕ) (name : List ℕ) (ps : List Proc) → ((i : ℕ) (p : Proc) → i < length ps → bytes_eq name (get_or ps i p).name ≡ false) → number_from n name ps ≡ None
number_from-none n name [] none = refl
number_from-none n name (q ∷ ps) none =
    ap (λ (b : Bool). if b then Some n else number_from (suc n) name ps) (none 0 q (omega arith))
    ∙ number_from-none (suc n) name ps (λ i p lt. none (suc i) p (omega (arith, lt)))

-- if no name occurs twice, the number of a procedure's name is its own
pub number_named-distinct : (ps : List Proc) (k : ℕ) (p : Proc) → has_name_twice ps ≡ false → slice_get ps k ≡ Some p → number_named p.name ps ≡ Some k
number_named-distinct ps k p once at =
    let own : get_or ps k p ≡ p = get_or_from_slice_get ps k p p at in
    let same = (bytes_eq-Decides p.name (get_or ps k p).name).1 (ap (λ (q : Proc). q.name) (sym own)) in
    number_from-at 0 k p.name ps p once (slice_get_within ps k p at) same ∙ ap Some (omega arith)
