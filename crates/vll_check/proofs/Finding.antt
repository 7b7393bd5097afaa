-- What a search for a name finds among the entries.
use Rattle.std.proofs.Common.{◌≡◌, ⊎_elim, ℕ, ◌<◌, ◌≤◌, true, false, List, length, get_or, Some, None, refl, sym, ap, ◌∙◌, arith}
use Rattle.vll_check.proofs.Common.{slice_cmp, nat_list_eq_equiv, nat_list_cmp_total, Ordering, Less, Equal, Greater, slice_get, IsNonDecreasingBy, IsPartitionPoint, nat_cmp, is_eq, ordering_index, bytes_eq, cases_eq, cases_lt, alike_right, get_or_default, get_or-map, length-map, Less-from_sorted, is_eq-slice_cmp, slice_get-get_or, Proc, Entry, has_name_twice, number_named, by_name, numbered, IsIndexed}
use Rattle.std.specs.List.Sorted.{IsStrictlySortedBy}
use Rattle.vll_check.proofs.Distinct.{number_from-at, number_from-none}
use Rattle.vll_check.proofs.Indexed.{entry_at}

length-numbered : (es : List Entry) → length (numbered es) ≡ length es
length-numbered es = length-map es (λ (e : Entry). (get_or es e.place e).procedure)

-- the entry at a number has the index of its procedure
pub numbered_at : (es : List Entry) → IsIndexed es → (k : ℕ) (d : Entry) (p : Proc) → k < length es → get_or (numbered es) (get_or es k d).number p ≡ (get_or es k d).procedure
numbered_at es indexed k d p lt =
    let n = (get_or es k d).number in
    let e = get_or es n d in
    let back : get_or es e.place e ≡ get_or es k d = ap (λ (m : ℕ). get_or es m e) (indexed.of_number k d lt) ∙ get_or_default es k e d lt in
    get_or-map (λ (f : Entry). (get_or es f.place f).procedure) es n d p (indexed.number k d lt) ∙ ap (λ (f : Entry). f.procedure) back

pub slice_get-numbered : (es : List Entry) → IsIndexed es → (k : ℕ) (d : Entry) → k < length es → slice_get (numbered es) (get_or es k d).number ≡ Some (get_or es k d).procedure
slice_get-numbered es indexed k d lt =
    let n = (get_or es k d).number in
    let p = (get_or es k d).procedure in
    let within : n < length (numbered es) = omega (arith, indexed.number k d lt, length-numbered es) in
    slice_get-get_or (numbered es) n p within ∙ ap Some (numbered_at es indexed k d p lt)

same_name : (name other : List ℕ) → bytes_eq name other ≡ is_eq (slice_cmp nat_cmp other name)
same_name name other = nat_list_eq_equiv.symm name other ∙ sym (is_eq-slice_cmp other name)

-- how an entry's name compares to a name
abbrev pub to_name : List ℕ → Entry → Ordering
to_name name e = slice_cmp nat_cmp e.procedure.name name

pub number_named-found : (es : List Entry) (name : List ℕ) → IsIndexed es → has_name_twice (numbered es) ≡ false → (k : ℕ) (d : Entry) → k < length es → to_name name (get_or es k d) ≡ Equal → number_named name (numbered es) ≡ Some (get_or es k d).number
number_named-found es name indexed once k d lt equal =
    let n = (get_or es k d).number in
    let p = (get_or es k d).procedure in
    let within : n < length (numbered es) = omega (arith, indexed.number k d lt, length-numbered es) in
    let same : bytes_eq name (get_or (numbered es) n p).name ≡ true =
    ap (λ (q : Proc). bytes_eq name q.name) (numbered_at es indexed k d p lt) ∙ same_name name p.name ∙ ap is_eq equal in
    number_from-at 0 n name (numbered es) p once within same ∙ ap Some (omega arith)

pub number_named-none : (es : List Entry) (name : List ℕ) → IsIndexed es → ((k : ℕ) (d : Entry) → k < length es → is_eq (to_name name (get_or es k d)) ≡ false) → number_named name (numbered es) ≡ None
number_named-none es name indexed none =
    let F : Entry → Proc = λ f. (get_or es f.place f).procedure in
    number_from-none 0 name (numbered es) (λ i p lt.
    let in_es : i < length es = omega (arith, lt, length-numbered es) in
    let e = get_or es i (entry_at p) in
    ap (λ (q : Proc). bytes_eq name q.name) (get_or-map F es i (entry_at p) p in_es)
    ∙ same_name name (F e).name ∙ none e.place e (indexed.place i (entry_at p) in_es))

index_le : (o p : Ordering) → (p ≡ Less → o ≡ Less) → (p ≡ Equal → o ≡ Less) → ordering_index o ≤ ordering_index p
index_le o Less f g = let e = ap ordering_index (f refl) in omega (arith, e)
index_le o Equal f g = let e = ap ordering_index (g refl) in omega (arith, e)
index_le Less Greater f g = omega arith
index_le Equal Greater f g = omega arith
index_le Greater Greater f g = omega arith

-- what a binary search asks of the order of the names
pub IsNonDecreasingBy-rising : (es : List Entry) (name : List ℕ) → IsStrictlySortedBy by_name es → IsNonDecreasingBy (λ e. ordering_index (to_name name e)) es
IsNonDecreasingBy-rising es name rising i j d le lt =
    let a = get_or es i d in
    let b = get_or es j d in
    ⊎_elim
    (λ (same : i ≡ j).
    let equal : ordering_index (to_name name a) ≡ ordering_index (to_name name b) = ap (λ (k : ℕ). ordering_index (to_name name (get_or es k d))) same in
    omega (arith, equal))
    (λ (other : i ≡ j → ⊥).
    let less = Less-from_sorted by_name es i j d rising (omega (arith, le, other)) lt in
    index_le (to_name name a) (to_name name b)
    (λ before. nat_list_cmp_total.trans a.procedure.name b.procedure.name name less before)
    (λ at. sym (alike_right nat_list_cmp_total b.procedure.name name a.procedure.name at) ∙ less))
    (cases_eq i j)

-- where it ends without the name
pub none_equal : (es : List Entry) (name : List ℕ) (i : ℕ) → IsPartitionPoint (λ e. to_name name e ≡ Less) (λ e. to_name name e ≡ Greater) es i → (k : ℕ) (d : Entry) → k < length es → is_eq (to_name name (get_or es k d)) ≡ false
none_equal es name i split k d lt =
    ⊎_elim
    (λ (before : k < i). ap is_eq (split.0 k d (omega arith) before))
    (λ (behind : i ≤ k). ap is_eq (split.1 k d behind lt))
    (cases_lt k i)
