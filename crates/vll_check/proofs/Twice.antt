-- Entries of which no two have one name, in any order and in the order of the names.
use Rattle.std.proofs.Common.{◌≡◌, ⊎_elim, ℕ, ◌+◌, ◌<◌, Bool, true, false, ◌||◌, List, [], ◌∷◌, length, map, get_or, refl, sym, ap, ap₂, ◌∙◌, ◌-◌, ◌≤◌, arith}
use Rattle.vll_check.proofs.Common.{nat_list_eq_equiv, on_texts, Ordering, Less, Equal, Greater, AllByRecursion, list_any, IsPermutation, is_lt, is_eq, ordering_reverse, bytes_eq, cases_Bool, cases_eq, both_ways, true≢false, get_or_default, IsDistinct-head, IsDistinct-tail, IsDistinct-cons, IsDistinct-from_apart, IsDistinct-IsPermutation, apart_from_distinct, Less-from_sorted, sorted_from_all_adjacent, is_eq-slice_cmp, Proc, Entry, procedure_of, has_name_twice, by_name, IsInOrder}
use Rattle.std.specs.Cmp.{IsTotalOrder}
use Rattle.std.specs.List.{IsDistinct}
use Rattle.std.specs.List.Sorted.{IsStrictlySortedBy}

-- two entries have one name
abbrev pub has_name_of : Entry → Entry → Bool
has_name_of d e = bytes_eq d.procedure.name e.procedure.name

pub has_name_of-flips : (d e : Entry) → has_name_of d e ≡ has_name_of e d
has_name_of-flips d e = (nat_list_eq_equiv).symm d.procedure.name e.procedure.name

pub by_name_total : IsTotalOrder by_name
by_name_total = on_texts (λ (e : Entry). e.procedure.name)

pub is_eq-by_name : (d e : Entry) → is_eq (by_name d e) ≡ has_name_of d e
is_eq-by_name d e = is_eq-slice_cmp d.procedure.name e.procedure.name

pub first_fails : (a b : Bool) → (a || b) ≡ false → a ≡ false
first_fails a b h = grind arith

pub rest_fails : (a b : Bool) → (a || b) ≡ false → b ≡ false
rest_fails a b h = grind arith

none_later : (d : Entry) (es : List Entry) → list_any (λ (q : Proc). bytes_eq d.procedure.name q.name) (map procedure_of es) ≡ false → AllByRecursion (λ e. has_name_of d e ≡ false) es
none_later d [] h = tt
none_later d (e ∷ es) h =
    let rest = list_any (λ (q : Proc). bytes_eq d.procedure.name q.name) (map procedure_of es) in
    (first_fails (has_name_of d e) rest h, none_later d es (rest_fails (has_name_of d e) rest h))

later_none : (d : Entry) (es : List Entry) → AllByRecursion (λ e. has_name_of d e ≡ false) es → list_any (λ (q : Proc). bytes_eq d.procedure.name q.name) (map procedure_of es) ≡ false
later_none d [] h = refl
later_none d (e ∷ es) h = rw (h.0, later_none d es h.1) refl

IsDistinct-none : IsDistinct has_name_of []
unfolding IsDistinct
IsDistinct-none = tt

-- in terms of std's word
pub IsDistinct-from_once : (es : List Entry) → has_name_twice (map procedure_of es) ≡ false → IsDistinct has_name_of es
IsDistinct-from_once [] h = IsDistinct-none
IsDistinct-from_once (e ∷ es) h =
    let later = list_any (λ (q : Proc). bytes_eq e.procedure.name q.name) (map procedure_of es) in
    let rest = has_name_twice (map procedure_of es) in
    IsDistinct-cons has_name_of e es (none_later e es (first_fails later rest h)) (IsDistinct-from_once es (rest_fails later rest h))

pub once_from_IsDistinct : (es : List Entry) → IsDistinct has_name_of es → has_name_twice (map procedure_of es) ≡ false
once_from_IsDistinct [] h = refl
once_from_IsDistinct (e ∷ es) h = rw (later_none e es (IsDistinct-head has_name_of e es h), once_from_IsDistinct es (IsDistinct-tail has_name_of e es h)) refl

same_bool : (a b : Bool) → (a ≡ false → b ≡ false) → (b ≡ false → a ≡ false) → a ≡ b
same_bool true true f g = refl
same_bool false false f g = refl
same_bool true false f g = g refl
same_bool false true f g = sym (f refl)

-- the order of the entries does not matter
pub twice-permutation : (es fs : List Entry) → IsPermutation es fs → IsPermutation fs es → has_name_twice (map procedure_of fs) ≡ has_name_twice (map procedure_of es)
twice-permutation es fs moved back =
    same_bool (has_name_twice (map procedure_of fs)) (has_name_twice (map procedure_of es))
    (λ h. once_from_IsDistinct es (IsDistinct-IsPermutation has_name_of has_name_of-flips fs es back (IsDistinct-from_once fs h)))
    (λ h. once_from_IsDistinct fs (IsDistinct-IsPermutation has_name_of has_name_of-flips es fs moved (IsDistinct-from_once es h)))

-- two places with one name
pub twice_at : (es : List Entry) (i j : ℕ) (d : Entry) → i < j → j < length es → has_name_of (get_or es i d) (get_or es j d) ≡ true → has_name_twice (map procedure_of es) ≡ true
twice_at es i j d lt within same =
    ⊎_elim
    (λ (twice : has_name_twice (map procedure_of es) ≡ true). twice)
    (λ (once : has_name_twice (map procedure_of es) ≡ false).
    absurd (both_ways (has_name_of (get_or es i d) (get_or es j d)) (apart_from_distinct has_name_of es i j d (IsDistinct-from_once es once) lt within) same))
    (cases_Bool (has_name_twice (map procedure_of es)))

less_from : (o : Ordering) → is_eq o ≡ false → is_lt (ordering_reverse o) ≡ false → o ≡ Less
less_from Less f g = refl
less_from Equal f g = absurd (true≢false f)
less_from Greater f g = absurd (true≢false g)

pub less_from_order : (d e : Entry) → is_lt (by_name e d) ≡ false → has_name_of d e ≡ false → by_name d e ≡ Less
less_from_order d e order apart =
    less_from (by_name d e) (is_eq-by_name d e ∙ apart) (sym (ap is_lt (by_name_total.antisymm e d)) ∙ order)

apart_from_less : (d e : Entry) → by_name d e ≡ Less → has_name_of d e ≡ false
apart_from_less d e less = sym (is_eq-by_name d e) ∙ ap is_eq less

pub once_from_rising : (es : List Entry) → IsStrictlySortedBy by_name es → has_name_twice (map procedure_of es) ≡ false
once_from_rising es rising =
    once_from_IsDistinct es (IsDistinct-from_apart has_name_of es (λ i j d lt within. apart_from_less (get_or es i d) (get_or es j d) (Less-from_sorted by_name es i j d rising lt within)))

rising_none : IsStrictlySortedBy by_name []
unfolding IsStrictlySortedBy
rising_none = tt

-- each name is less than the next
pub rising_from_less : (es : List Entry) → ((k : ℕ) (d : Entry) → k + 1 < length es → by_name (get_or es k d) (get_or es (k + 1) d) ≡ Less) → IsStrictlySortedBy by_name es
rising_from_less [] less = rising_none
rising_from_less (e ∷ es) less = sorted_from_all_adjacent by_name_total (e ∷ es) e (λ k within. less k e within)

pub rising_from_once : (es : List Entry) → IsInOrder es → has_name_twice (map procedure_of es) ≡ false → IsStrictlySortedBy by_name es
rising_from_once es order once =
    rising_from_less es (λ k d within.
    less_from_order (get_or es k d) (get_or es (k + 1) d) (order k d (omega arith) within)
    (apart_from_distinct has_name_of es k (k + 1) d (IsDistinct-from_once es once) (omega arith) within))

-- what a comparison of neighbours that were read says of them in the list
pub neighbours_read : (es : List Entry) (k i : ℕ) (x y : Entry) → k + 1 ≡ i → i < length es → x ≡ get_or es (i - 1) x → y ≡ get_or es i y → (d : Entry) → has_name_of (get_or es k d) (get_or es (k + 1) d) ≡ has_name_of x y
neighbours_read es k i x y next within at_x at_y d =
    let before : k ≡ i - 1 = omega arith in
    let first : get_or es k d ≡ x = get_or_default es k d x (omega arith) ∙ ap (λ (n : ℕ). get_or es n x) before ∙ sym at_x in
    let second : get_or es (k + 1) d ≡ y = get_or_default es (k + 1) d y (omega arith) ∙ ap (λ (n : ℕ). get_or es n y) next ∙ sym at_y in
    ap₂ has_name_of first second

pub twice_read : (es : List Entry) (i : ℕ) (x y : Entry) → 1 ≤ i → i < length es → x ≡ get_or es (i - 1) x → y ≡ get_or es i y → has_name_of x y ≡ true → has_name_twice (map procedure_of es) ≡ true
twice_read es i x y from within at_x at_y same =
    let next : i - 1 + 1 ≡ i = omega arith in
    twice_at es (i - 1) (i - 1 + 1) x (omega arith) (omega arith) (neighbours_read es (i - 1) i x y next within at_x at_y x ∙ same)

-- a loop's step over neighbours
pub less_more : (es : List Entry) (i : ℕ) (x y : Entry) → IsInOrder es → i < length es → x ≡ get_or es (i - 1) x → y ≡ get_or es i y → has_name_of x y ≡ false
    → ((k : ℕ) (d : Entry) → k + 1 < i → by_name (get_or es k d) (get_or es (k + 1) d) ≡ Less)
    → (k : ℕ) (d : Entry) → k + 1 < i + 1 → by_name (get_or es k d) (get_or es (k + 1) d) ≡ Less
less_more es i x y order within at_x at_y apart before k d lt =
    ⊎_elim
    (λ (next : k + 1 ≡ i).
    less_from_order (get_or es k d) (get_or es (k + 1) d) (order k d (omega arith) (omega arith)) (neighbours_read es k i x y next within at_x at_y d ∙ apart))
    (λ (other : k + 1 ≡ i → ⊥). before k d (omega (arith, other)))
    (cases_eq (k + 1) i)
