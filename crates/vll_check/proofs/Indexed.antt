-- The entries of a library: numbered, sorted, and placed.
use Rattle.std.proofs.Common.{◌≡◌, ◌⊎◌, ⊎_elim, ℕ, ◌+◌, ◌<◌, ◌^◌, Bool, false, None, List, length, map, get_or, sym, ap, ap₂, ◌∙◌, subst, arith, All}
use Rattle.vll_check.proofs.Common.{IsPermutation, ◌==◌, cases_order, ne_eqb, eq-eqb, both_ways, nat_eq_equiv, get_or_default, get_or-map, length-map, same_lists, Contains-get_or, All-map, All-permutation, Contains-permutation, length_permutation, IsPermutation-sym, IsDistinct-from_apart, IsDistinct-IsPermutation, apart_from_distinct, Less-from_sorted, Proc, IsCatalog, Entry, procedure_of, check_fault, has_name_twice, by_name, AllPassed, AreNumbered, HaveNumbers, ArePlaced, AreArranged, IsInOrder, numbered, IsIndexed}
use Rattle.std.specs.List.{IsDistinct}
use Rattle.std.specs.List.Sorted.{IsStrictlySortedBy}
use Rattle.vll_check.proofs.Numbering.{with_number}
use Rattle.vll_check.proofs.Twice.{rising_from_less, rising_from_once, twice-permutation}

abbrev number_of : Entry → ℕ
number_of e = e.number

abbrev place_of : Entry → ℕ
place_of e = e.place

-- an entry of a procedure, whatever else it is
abbrev pub entry_at : Proc → Entry
entry_at p = record { procedure = p; records = 0; number = 0; place = 0 }

pub procedures_numbered : (es fs : List Entry) → AreNumbered es fs → map procedure_of fs ≡ map procedure_of es
procedures_numbered es fs numbers =
    same_lists (map procedure_of fs) (map procedure_of es) (length-map fs procedure_of ∙ numbers.long ∙ sym (length-map es procedure_of))
    (λ k p lt.
    let d = entry_at p in
    let in_fs : k < length fs = omega (arith, lt, length-map fs procedure_of) in
    let in_es : k < length es = omega (arith, in_fs, numbers.long) in
    get_or-map procedure_of fs k d p in_fs ∙ ap procedure_of (numbers.each k d in_es) ∙ sym (get_or-map procedure_of es k d p in_es))

pub passed_procedures : (es : List Entry) (records : ℕ) → All (λ (e : Entry). e.records ≡ records) es → AllPassed es → All (λ (p : Proc). check_fault records p ≡ None) (map procedure_of es)
passed_procedures es records for_records passed =
    All-map (λ (p : Proc). check_fault records p ≡ None) procedure_of es
    (λ k d lt. ap (λ (n : ℕ). check_fault n (get_or es k d).procedure) (sym (for_records k d lt)) ∙ passed k d lt)

abbrev has_number_of : Entry → Entry → Bool
has_number_of d e = d.number == e.number

numbers_distinct : (es fs : List Entry) → AreNumbered es fs → IsDistinct has_number_of fs
numbers_distinct es fs numbers =
    IsDistinct-from_apart has_number_of fs
    (λ i j d lt within.
    let at_i = ap number_of (numbers.each i d (omega (arith, lt, within, numbers.long))) in
    let at_j = ap number_of (numbers.each j d (omega (arith, within, numbers.long))) in
    ne_eqb (get_or fs i d).number (get_or fs j d).number (λ same.
    let equal : i ≡ j = sym at_i ∙ same ∙ at_j in
    omega (arith, lt, equal)))

-- entries that were numbered have each number once, in any order
pub HaveNumbers-sorted : (es fs gs : List Entry) → AreNumbered es fs → IsPermutation fs gs → HaveNumbers gs
HaveNumbers-sorted es fs gs numbers moved =
    let long = length_permutation fs gs moved in
    let distinct = IsDistinct-IsPermutation has_number_of (λ d e. nat_eq_equiv.symm d.number e.number) fs gs moved (numbers_distinct es fs numbers) in
    record {
      within = λ k d lt.
          let below : (get_or gs k d).number < length fs = All-permutation (λ (e : Entry). e.number < length fs) fs gs moved
          (λ n e in_fs.
          let at_n = ap number_of (numbers.each n e (omega (arith, in_fs, numbers.long))) in
          omega (arith, in_fs, at_n)) k d lt in
          omega (arith, below, long);
      apart = λ j k d in_j in_k same.
          let equal = eq-eqb (get_or gs j d).number (get_or gs k d).number same in
          let back = eq-eqb (get_or gs k d).number (get_or gs j d).number (sym same) in
          ⊎_elim
          (λ (e : j ≡ k). e)
          (λ (o : (j < k) ⊎ (k < j)).
          ⊎_elim
          (λ (lt : j < k). absurd (both_ways _ (apart_from_distinct has_number_of gs j k d distinct lt in_k) equal))
          (λ (lt : k < j). absurd (both_ways _ (apart_from_distinct has_number_of gs k j d distinct lt in_j) back))
          o)
          (cases_order j k);
    }

-- each number is that of some entry
number_found : (es fs gs : List Entry) → AreNumbered es fs → IsPermutation fs gs → (n : ℕ) (d : Entry) → n < length es → (k : ℕ) × (k < length gs) × ((get_or gs k d).number ≡ n)
number_found es fs gs numbers moved n d lt =
    let x = get_or fs n d in
    let found = Contains-permutation fs gs x moved (Contains-get_or fs n d (omega (arith, lt, numbers.long))) in
    (found.0, found.1, ap number_of (get_or_default gs found.0 d x found.1 ∙ found.2 ∙ numbers.each n d lt))

-- and with its procedure
procedure_found : (es fs gs : List Entry) → AreNumbered es fs → IsPermutation fs gs → (k : ℕ) (d : Entry) → k < length gs → (get_or gs k d).procedure ≡ (get_or es (get_or gs k d).number d).procedure
procedure_found es fs gs numbers moved k d lt =
    let P : Entry → Type 0 = λ e. e.procedure ≡ (get_or es e.number d).procedure in
    All-permutation P fs gs moved
    (λ n e in_fs.
    let in_es : n < length es = omega (arith, in_fs, numbers.long) in
    let core : P (with_number (get_or es n e) n) = ap procedure_of (get_or_default es n e d in_es) in
    subst P (sym (numbers.each n e in_es)) core)
    k d lt

number_kept : (gs hs : List Entry) → ArePlaced gs hs → (k : ℕ) (d : Entry) → k < length gs → (get_or hs k d).number ≡ (get_or gs k d).number
number_kept gs hs placed k d lt = ap number_of (placed.kept k d lt)

-- the place that the entry at a number has
place_found : (es fs gs hs : List Entry) → AreNumbered es fs → IsPermutation fs gs → ArePlaced gs hs → (n : ℕ) (d : Entry) → n < length es → (k : ℕ) × (k < length gs) × ((get_or gs k d).number ≡ n) × ((get_or hs n d).place ≡ k)
place_found es fs gs hs numbers moved placed n d lt =
    let found = number_found es fs gs numbers moved n d lt in
    (found.0, found.1, found.2, ap (λ (m : ℕ). (get_or hs m d).place) (sym found.2) ∙ placed.each found.0 d found.1)

lengths : (es fs gs hs : List Entry) → AreNumbered es fs → IsPermutation fs gs → ArePlaced gs hs → (length gs ≡ length es) × (length hs ≡ length es)
lengths es fs gs hs numbers moved placed =
    let in_gs = length_permutation fs gs moved ∙ numbers.long in
    (in_gs, placed.long ∙ in_gs)

pub IsIndexed-placed : (es fs gs hs : List Entry) → AreNumbered es fs → IsPermutation fs gs → ArePlaced gs hs → IsIndexed hs
IsIndexed-placed es fs gs hs numbers moved placed =
    let long = lengths es fs gs hs numbers moved placed in
    let have = HaveNumbers-sorted es fs gs numbers moved in
    record {
      place = λ n d lt.
          let found = place_found es fs gs hs numbers moved placed n d (omega (arith, lt, long.1)) in
          omega (arith, found.1, found.3, long.0, long.1);
      number = λ k d lt.
          let in_gs : k < length gs = omega (arith, lt, placed.long) in
          omega (arith, number_kept gs hs placed k d in_gs, have.within k d in_gs, placed.long);
      of_place = λ n d lt.
          let found = place_found es fs gs hs numbers moved placed n d (omega (arith, lt, long.1)) in
          ap (λ (m : ℕ). (get_or hs m d).number) found.3 ∙ number_kept gs hs placed found.0 d found.1 ∙ found.2;
      of_number = λ k d lt.
          let in_gs : k < length gs = omega (arith, lt, placed.long) in
          ap (λ (m : ℕ). (get_or hs m d).place) (number_kept gs hs placed k d in_gs) ∙ placed.each k d in_gs;
    }

-- the procedures in the order of their numbers are those that were given
pub numbered_placed : (es fs gs hs : List Entry) → AreNumbered es fs → IsPermutation fs gs → ArePlaced gs hs → numbered hs ≡ map procedure_of es
numbered_placed es fs gs hs numbers moved placed =
    let long = lengths es fs gs hs numbers moved placed in
    let F : Entry → Proc = λ e. (get_or hs e.place e).procedure in
    same_lists (map F hs) (map procedure_of es) (length-map hs F ∙ long.1 ∙ sym (length-map es procedure_of))
    (λ n p lt.
    let d = entry_at p in
    let in_hs : n < length hs = omega (arith, lt, length-map hs F) in
    let in_es : n < length es = omega (arith, in_hs, long.1) in
    let found = place_found es fs gs hs numbers moved placed n d in_es in
    let e = get_or hs n d in
    let at_place : get_or hs e.place e ≡ get_or hs found.0 d = ap (λ (m : ℕ). get_or hs m e) found.3 ∙ get_or_default hs found.0 e d (omega (arith, found.1, placed.long)) in
    let same : (get_or hs found.0 d).procedure ≡ (get_or es n d).procedure =
    ap procedure_of (placed.kept found.0 d found.1) ∙ procedure_found es fs gs numbers moved found.0 d found.1 ∙ ap (λ (m : ℕ). (get_or es m d).procedure) found.2 in
    get_or-map F hs n d p in_hs ∙ ap procedure_of at_place ∙ same ∙ sym (get_or-map procedure_of es n d p in_es))

pub rising_placed : (gs hs : List Entry) → ArePlaced gs hs → IsStrictlySortedBy by_name gs → IsStrictlySortedBy by_name hs
rising_placed gs hs placed rising =
    rising_from_less hs (λ k d lt.
    let next : k + 1 < length gs = omega (arith, lt, placed.long) in
    ap₂ by_name (placed.kept k d (omega (arith, next))) (placed.kept (k + 1) d next)
    ∙ Less-from_sorted by_name gs k (k + 1) d rising (omega arith) next)

-- numbering and sorting keep a name that stands twice
pub twice_sorted : (es fs gs : List Entry) → AreNumbered es fs → IsPermutation fs gs → has_name_twice (map procedure_of gs) ≡ has_name_twice (map procedure_of es)
twice_sorted es fs gs numbers moved =
    twice-permutation fs gs moved (IsPermutation-sym fs gs moved) ∙ ap has_name_twice (procedures_numbered es fs numbers)

pub AreArranged-placed : (es fs gs hs : List Entry) → AreNumbered es fs → IsPermutation fs gs → IsInOrder gs → has_name_twice (map procedure_of gs) ≡ false → ArePlaced gs hs → AreArranged es hs
AreArranged-placed es fs gs hs numbers moved order once placed = record {
  long = (lengths es fs gs hs numbers moved placed).1;
  rising = rising_placed gs hs placed (rising_from_once gs order once);
  indexed = IsIndexed-placed es fs gs hs numbers moved placed;
  same = numbered_placed es fs gs hs numbers moved placed;
}

pub IsCatalog-arranged : (es fs : List Entry) (records : ℕ) → AreArranged es fs → length es < 2 ^ 32 → records < 2 ^ 32 → All (λ (e : Entry). e.records ≡ records) es → AllPassed es → has_name_twice (map procedure_of es) ≡ false
    → IsCatalog (record { records = records; procs = numbered fs })
IsCatalog-arranged es fs records arranged few range for_records passed once =
    let P : List Proc → Type 0 = λ ps. IsCatalog (record { records = records; procs = ps }) in
    subst P (sym arranged.same) (record {
      few = omega (arith, few, length-map es procedure_of);
      range = range;
      passed = passed_procedures es records for_records passed;
      once = once;
    })
