-- The numbers of entries, and the places at which they stand.
use Rattle.std.proofs.Common.{◌≡◌, ⊎_elim, ℕ, ◌+◌, ◌<◌, ◌≤◌, None, List, length, get_or, set, sym, ap, ◌∙◌, subst, arith}
use Rattle.vll_check.proofs.Common.{cases_eq, get_or_default, get_or-set_same, get_or-set_other, Entry, check_fault, HaveNumbers}

abbrev pub with_number : Entry → ℕ → Entry
with_number e n = record e { number = n }

abbrev pub with_place : Entry → ℕ → Entry
with_place e n = record e { place = n }

-- a loop's step, which numbers the entry at i
pub numbers_more : (es fs : List Entry) (i : ℕ) (x y : Entry) → i < length fs → y ≡ with_number (get_or fs i x) i
    → ((n : ℕ) (d : Entry) → n < i → get_or fs n d ≡ with_number (get_or es n d) n)
    → ((n : ℕ) (d : Entry) → i ≤ n → get_or fs n d ≡ get_or es n d)
    → (n : ℕ) (d : Entry) → n < i + 1 → get_or (set fs i y) n d ≡ with_number (get_or es n d) n
numbers_more es fs i x y within is done left n d lt =
    ⊎_elim
    (λ (here : i ≡ n).
    let old : get_or fs i x ≡ get_or es i d = get_or_default fs i x d within ∙ left i d (omega arith) in
    let P : ℕ → Type 0 = λ k. get_or (set fs i y) k d ≡ with_number (get_or es k d) k in
    subst P here (get_or-set_same fs i y d within ∙ is ∙ ap (λ (e : Entry). with_number e i) old))
    (λ (other : i ≡ n → ⊥). get_or-set_other fs i n y d (λ e. other (sym e)) ∙ done n d (omega (arith, other)))
    (cases_eq i n)

pub passed_more : (es fs : List Entry) (i : ℕ) (x : Entry) → i < length fs → get_or fs i x ≡ get_or es i x → length fs ≡ length es
    → check_fault (get_or fs i x).records (get_or fs i x).procedure ≡ None
    → ((n : ℕ) (d : Entry) → n < i → check_fault (get_or es n d).records (get_or es n d).procedure ≡ None)
    → (n : ℕ) (d : Entry) → n < i + 1 → check_fault (get_or es n d).records (get_or es n d).procedure ≡ None
passed_more es fs i x within left long passed before n d lt =
    ⊎_elim
    (λ (here : i ≡ n).
    let old : get_or fs i x ≡ get_or es i d = left ∙ get_or_default es i x d (omega arith) in
    let P : Entry → Type 0 = λ e. check_fault e.records e.procedure ≡ None in
    let Q : ℕ → Type 0 = λ k. P (get_or es k d) in
    subst Q here (subst P old passed))
    (λ (other : i ≡ n → ⊥). before n d (omega (arith, other)))
    (cases_eq i n)

-- where only places differ, a number that is read in one list is that of the other
pub number_read : (es fs : List Entry) (i n : ℕ) (x : Entry) → i < length es → n ≡ (get_or fs i x).number
    → ((k : ℕ) (d : Entry) → k < length es → get_or fs k d ≡ with_place (get_or es k d) (get_or fs k d).place)
    → (d : Entry) → (get_or es i d).number ≡ n
number_read es fs i n x within is kept d =
    sym (is ∙ ap (λ (e : Entry). e.number) (kept i x within) ∙ ap (λ (e : Entry). e.number) (get_or_default es i x d within))

-- a loop's step, which sets the place at the number n of the entry at i to i
pub places_more : (es fs : List Entry) (i n : ℕ) (x y : Entry) → HaveNumbers es → i < length es → length fs ≡ length es
    → ((d : Entry) → (get_or es i d).number ≡ n) → y ≡ with_place (get_or fs n x) i
    → ((k : ℕ) (d : Entry) → k < i → (get_or fs (get_or es k d).number d).place ≡ k)
    → (k : ℕ) (d : Entry) → k < i + 1 → (get_or (set fs n y) (get_or es k d).number d).place ≡ k
places_more es fs i n x y numbers within long at_n is done k d lt =
    ⊎_elim
    (λ (here : i ≡ k).
    let P : ℕ → Type 0 = λ j. (get_or (set fs n y) (get_or es j d).number d).place ≡ j in
    let there : n < length fs = omega (arith, numbers.within i d within, at_n d, long) in
    let place_of : Entry → ℕ = λ e. e.place in
    subst P here (ap (λ (m : ℕ). place_of (get_or (set fs n y) m d)) (at_n d) ∙ ap place_of (get_or-set_same fs n y d there) ∙ ap place_of is))
    (λ (other : i ≡ k → ⊥).
    let before : k < i = omega (arith, other) in
    let apart : (get_or es k d).number ≡ n → ⊥ = λ same. other (sym (numbers.apart k i d (omega arith) within (same ∙ sym (at_n d)))) in
    ap (λ (e : Entry). e.place) (get_or-set_other fs n (get_or es k d).number y d apart) ∙ done k d before)
    (cases_eq i k)

pub kept_more : (es fs : List Entry) (i n : ℕ) (x y : Entry) → n < length es → length fs ≡ length es → y ≡ with_place (get_or fs n x) i
    → ((k : ℕ) (d : Entry) → k < length es → get_or fs k d ≡ with_place (get_or es k d) (get_or fs k d).place)
    → (k : ℕ) (d : Entry) → k < length es → get_or (set fs n y) k d ≡ with_place (get_or es k d) (get_or (set fs n y) k d).place
kept_more es fs i n x y within long is kept k d lt =
    let P : ℕ → Entry → Type 0 = λ j z. z ≡ with_place (get_or es j d) z.place in
    ⊎_elim
    (λ (here : n ≡ k).
    let as_fs : with_place (get_or fs n x) i ≡ with_place (get_or es n x) i = ap (λ (e : Entry). with_place e i) (kept n x within) in
    let as_es : with_place (get_or es n x) i ≡ with_place (get_or es n d) i = ap (λ (e : Entry). with_place e i) (get_or_default es n x d within) in
    let place : i ≡ y.place = sym (ap (λ (e : Entry). e.place) is) in
    let core : P n y = is ∙ as_fs ∙ as_es ∙ ap (with_place (get_or es n d)) place in
    let Q : ℕ → Type 0 = λ j. P j (get_or (set fs n y) j d) in
    let R : Entry → Type 0 = λ z. P n z in
    subst Q here (subst R (sym (get_or-set_same fs n y d (omega arith))) core))
    (λ (other : n ≡ k → ⊥).
    let R : Entry → Type 0 = λ z. P k z in
    subst R (sym (get_or-set_other fs n k y d (λ e. other (sym e)))) (kept k d lt))
    (cases_eq n k)
