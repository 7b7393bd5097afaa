-- Claims laid in their fields: what a mode that is strengthened and an insert leave.
use Rattle.std.proofs.Common.{◌≡◌, ℕ, suc, ◌+◌, ◌-◌, ◌<◌, ◌≤◌, List, ◌∷◌, ◌++◌, length, take, drop, set, replicate, insert, refl, subst, sym, ap, ap₂, ◌∙◌, arith, drop-drop, append_assoc, length-append, length-set, length-drop, length-take-le, take_at, drop_at, slice_get, Some}
use Rattle.vll_record.proofs.Common.{copy_within, length-replicate, length-map, map-append, take-map, drop-map, set_split, take-append-le, drop-append-le, take-take, drop-replicate, length-insert, get_or_from_slice_get, map-set_same, Claim, Mode, MOST_CLAIMS, Inside, IsRising, kept, from_list, ids_of, IsCanonical, claims_with, mask_of}
use Rattle.std.specs.List.Sorted.{IsStrictlyIncreasing}
use Rattle.vll_record.specs.Headline.Canon.{laid}
use Rattle.vll_record.proofs.Masks.{claims_with-mask_of}

length-ids_of : (cs : List Claim) → length (ids_of cs) ≡ length cs
length-ids_of cs = rw length-map refl

kept-from_list : (cs : List Claim) → kept (from_list cs) ≡ cs
kept-from_list cs =
    ap (λ (ids : List ℕ). claims_with ids (mask_of cs)) (take_at (ids_of cs) (replicate (MOST_CLAIMS - length (ids_of cs)) 0) (length cs) (length-ids_of cs))
    ∙ claims_with-mask_of cs

-- fields laid out from a list represent that list
pub kept-lies : (a : Inside) (cs : List Claim) → a ≡ from_list cs → kept a ≡ cs
kept-lies a cs e = ap kept e ∙ kept-from_list cs

-- fields laid out from a rising list meet the invariant
pub IsCanonical-lies : (a : Inside) (cs : List Claim) → a ≡ from_list cs → length cs ≤ MOST_CLAIMS → IsRising cs → IsCanonical a
IsCanonical-lies a cs e few rising =
    let is = kept-lies a cs e in
    record { few = rw is few; lies = ap from_list is ∙ sym e; rising = rw is rising }

-- what is kept is laid
pub lies-kept : (a : Inside) (cs : List Claim) → IsCanonical a → kept a ≡ cs → a ≡ from_list cs
lies-kept a cs h is = sym h.lies ∙ ap from_list is

length-laid : {A : Type 0} (n : ℕ) (blank : A) (xs : List A) → length xs ≤ n → length (laid n blank xs) ≡ n
length-laid n blank xs le =
    let sum = length-append xs (replicate (n - length xs) blank) in
    let more = length-replicate (n - length xs) blank in
    omega arith

-- what follows the next place once that place is free
abbrev behind : {A : Type 0} → ℕ → A → List A → ℕ → List A
behind n blank xs i = drop i xs ++ replicate (n - suc (length xs)) blank

moved : {A : Type 0} (n : ℕ) (blank : A) (xs : List A) (i : ℕ) → i ≤ length xs → take (length xs - i) (drop i (laid n blank xs)) ≡ drop i xs
moved n blank xs i le =
    ap (take (length xs - i)) (drop-append-le i xs (replicate (n - length xs) blank) le)
    ∙ take_at (drop i xs) (replicate (n - length xs) blank) (length xs - i) (length-drop i xs)

unmoved : {A : Type 0} (n : ℕ) (blank : A) (xs : List A) (i : ℕ) → i ≤ length xs → length xs < n
    → drop (i + 1 + (length xs - i)) (laid n blank xs) ≡ replicate (n - suc (length xs)) blank
unmoved n blank xs i le lt =
    let past : i + 1 + (length xs - i) ≡ length xs + 1 = omega arith in
    let fewer : n - length xs - 1 ≡ n - suc (length xs) = omega arith in
    ap (λ (k : ℕ). drop k (laid n blank xs)) past
    ∙ sym (drop-drop 1 (length xs) (laid n blank xs))
    ∙ ap (drop 1) (drop_at xs (replicate (n - length xs) blank) (length xs) refl)
    ∙ drop-replicate 1 (n - length xs) blank
    ∙ ap (λ (k : ℕ). replicate k blank) fewer

copied : {A : Type 0} (n : ℕ) (blank : A) (xs : List A) (i : ℕ) → i ≤ length xs → length xs < n
    → copy_within (laid n blank xs) i (length xs) (i + 1) ≡ take (i + 1) (laid n blank xs) ++ behind n blank xs i
copied n blank xs i le lt =
    append_assoc (take (i + 1) (laid n blank xs)) (take (length xs - i) (drop i (laid n blank xs))) (drop (i + 1 + (length xs - i)) (laid n blank xs))
    ∙ ap (λ rest. take (i + 1) (laid n blank xs) ++ rest) (ap₂ (λ a b. a ++ b) (moved n blank xs i le) (unmoved n blank xs i le lt))

-- a write among the first i + 1 items, in two parts
set-last : {A : Type 0} (y : A) (xs ys : List A) (i : ℕ) → length xs ≡ i + 1 → set (xs ++ ys) i y ≡ take i xs ++ y ∷ ys
set-last y xs ys i e =
    let sum = length-append xs ys in
    set_split (xs ++ ys) i y (omega arith)
    ∙ ap₂ (λ a b. a ++ y ∷ b) (take-append-le i xs ys (omega arith)) (drop_at xs ys (suc i) (omega arith))

laid-insert : {A : Type 0} (n : ℕ) (blank y : A) (xs : List A) (i : ℕ) → i ≤ length xs → length xs < n
    → set (copy_within (laid n blank xs) i (length xs) (i + 1)) i y ≡ laid n blank (insert xs i y)
laid-insert n blank y xs i le lt =
    let whole = length-laid n blank xs (omega arith) in
    let front : take i (take (i + 1) (laid n blank xs)) ≡ take i xs =
    take-take i (i + 1) (laid n blank xs) (omega arith) ∙ take-append-le i xs (replicate (n - length xs) blank) le in
    let long = length-insert xs i y le in
    let fewer : n - suc (length xs) ≡ n - length (insert xs i y) = omega arith in
    ap (λ l. set l i y) (copied n blank xs i le lt)
    ∙ set-last y (take (i + 1) (laid n blank xs)) (behind n blank xs i) i (length-take-le (i + 1) (laid n blank xs) (omega arith))
    ∙ ap (λ l. l ++ y ∷ behind n blank xs i) front
    ∙ sym (append_assoc (take i xs) (y ∷ drop i xs) (replicate (n - suc (length xs)) blank))
    ∙ ap (λ (k : ℕ). insert xs i y ++ replicate k blank) fewer

-- fields are known from their parts
fields : (a : Inside) (cs : List Claim) → a.ids ≡ laid MOST_CLAIMS 0 (ids_of cs) → a.modes.writes ≡ mask_of cs → a.len ≡ length cs → a ≡ from_list cs
fields a cs ids writes len =
    ap (λ (x : List ℕ). let i : Inside = record { ids = x; modes = a.modes; len = a.len } in i) ids
    ∙ ap (λ (x : ℕ). let i : Inside = record { ids = laid MOST_CLAIMS 0 (ids_of cs); modes = record { writes = x }; len = a.len } in i) writes
    ∙ ap (λ (x : ℕ). let i : Inside = record { ids = laid MOST_CLAIMS 0 (ids_of cs); modes = record { writes = mask_of cs }; len = x } in i) len

-- a claim whose record stays
pub lies-modes : (a : Inside) (cs ds : List Claim) (writes : ℕ) → a ≡ from_list cs → ids_of ds ≡ ids_of cs → writes ≡ mask_of ds
    → ◌≡◌ {A = Inside} (record a { modes = record { writes = writes } }) (from_list ds)
lies-modes a cs ds writes e same is =
    let one : a.ids ≡ laid MOST_CLAIMS 0 (ids_of ds) = ap (λ (i : Inside). i.ids) e ∙ ap (laid MOST_CLAIMS 0) (sym same) in
    let long : length ds ≡ length cs = sym (length-ids_of ds) ∙ ap length same ∙ length-ids_of cs in
    fields (record a { modes = record { writes = writes } }) ds one is (ap (λ (i : Inside). i.len) e ∙ sym long)

ids_of-insert : (cs : List Claim) (i : ℕ) (c : Claim) → ids_of (insert cs i c) ≡ insert (ids_of cs) i c.id
ids_of-insert cs i c =
    map-append (λ (d : Claim). d.id) (take i cs) (c ∷ drop i cs)
    ∙ ap₂ (λ (xs ys : List ℕ). xs ++ c.id ∷ ys) (sym (take-map (λ (d : Claim). d.id) i cs)) (sym (drop-map (λ (d : Claim). d.id) i cs))

-- a claim that comes in
pub lies-insert : (a : Inside) (cs : List Claim) (i : ℕ) (c : Claim) (writes : ℕ) → a ≡ from_list cs → i ≤ length cs → length cs < MOST_CLAIMS → writes ≡ mask_of (insert cs i c)
    → ◌≡◌ {A = Inside} (record { ids = set (copy_within a.ids i a.len (i + 1)) i c.id; modes = record { writes = writes }; len = a.len + 1 }) (from_list (insert cs i c))
lies-insert a cs i c writes e le lt is =
    let long : length (ids_of cs) ≡ length cs = length-ids_of cs in
    let len : a.len ≡ length (ids_of cs) = ap (λ (x : Inside). x.len) e ∙ sym long in
    let ids : set (copy_within a.ids i a.len (i + 1)) i c.id ≡ laid MOST_CLAIMS 0 (ids_of (insert cs i c)) =
    ap₂ (λ (xs : List ℕ) (n : ℕ). set (copy_within xs i n (i + 1)) i c.id) (ap (λ (x : Inside). x.ids) e) len
    ∙ laid-insert MOST_CLAIMS 0 c.id (ids_of cs) i (omega arith) (omega arith)
    ∙ ap (laid MOST_CLAIMS 0) (sym (ids_of-insert cs i c)) in
    let longer = length-insert cs i c le in
    fields (record { ids = set (copy_within a.ids i a.len (i + 1)) i c.id; modes = record { writes = writes }; len = a.len + 1 }) (insert cs i c) ids is (omega arith)

pub writes-kept : (a : Inside) (cs : List Claim) → IsCanonical a → kept a ≡ cs → a.modes.writes ≡ mask_of cs
writes-kept a cs h is = ap (λ (i : Inside). i.modes.writes) (lies-kept a cs h is)

-- a claim whose mode changes
ids_of-set : (cs : List Claim) (i : ℕ) (held : Claim) (m : Mode) → slice_get cs i ≡ Some held → ids_of (set cs i (record held { mode = m })) ≡ ids_of cs
ids_of-set cs i held m at =
    map-set_same (λ (c : Claim). c.id) cs i (record held { mode = m }) held (ap (λ (c : Claim). c.id) (sym (get_or_from_slice_get cs i held held at)))

lies-set : (a : Inside) (cs : List Claim) (i : ℕ) (held : Claim) (m : Mode) (writes : ℕ) → IsCanonical a → kept a ≡ cs → slice_get cs i ≡ Some held → writes ≡ mask_of (set cs i (record held { mode = m }))
    → ◌≡◌ {A = Inside} (record a { modes = record { writes = writes } }) (from_list (set cs i (record held { mode = m })))
lies-set a cs i held m writes h is at word =
    lies-modes a cs (set cs i (record held { mode = m })) writes (lies-kept a cs h is) (ids_of-set cs i held m at) word

pub IsCanonical-set : (a : Inside) (cs : List Claim) (i : ℕ) (held : Claim) (m : Mode) (writes : ℕ) → IsCanonical a → kept a ≡ cs → slice_get cs i ≡ Some held → writes ≡ mask_of (set cs i (record held { mode = m }))
    → IsCanonical (record a { modes = record { writes = writes } })
IsCanonical-set a cs i held m writes h is at word =
    let ds : List Claim = set cs i (record held { mode = m }) in
    let few : length ds ≤ MOST_CLAIMS = omega (arith, h.few, ap length is, length-set cs i (record held { mode = m })) in
    let rising : IsRising ds = subst IsStrictlyIncreasing (ap ids_of is ∙ sym (ids_of-set cs i held m at)) h.rising in
    IsCanonical-lies (record a { modes = record { writes = writes } }) ds (lies-set a cs i held m writes h is at word) few rising

pub kept-set : (a : Inside) (cs : List Claim) (i : ℕ) (held : Claim) (m : Mode) (writes : ℕ) → IsCanonical a → kept a ≡ cs → slice_get cs i ≡ Some held → writes ≡ mask_of (set cs i (record held { mode = m }))
    → kept (record a { modes = record { writes = writes } }) ≡ set cs i (record held { mode = m })
kept-set a cs i held m writes h is at word =
    kept-lies (record a { modes = record { writes = writes } }) (set cs i (record held { mode = m })) (lies-set a cs i held m writes h is at word)
