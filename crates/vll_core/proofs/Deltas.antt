-- What each event does to counters.
use Rattle.std.proofs.Common.{◌≡◌, ℕ, Bool, true, false, ◌==◌, not, refl, sym, arith, ◌+◌, List, [], ◌∷◌, drop, ap, ◌∙◌, slice_get, slice_set, Some, cond, ◌++◌, take, add-one, if◌then◌else◌, count_by}
use Rattle.vll_core.proofs.Common.{slice_get_within, flat_map, with_entry, Entered, State, Turn, open_of, requested_of, counter, delta_on, Claim, filter-append, take-append-drop, set_split, is_write, claims_on, pair_word_of, delta_of, Read, Write, Mode, flat_map-cons, flat_map-append, sum_by-append}
use Rattle.vll_core.proofs.Places.{take_next, drop_next}

count_by-append : (p : Claim → Bool) (xs ys : List Claim) → count_by p (xs ++ ys) ≡ count_by p xs + count_by p ys
count_by-append p xs ys = sum_by-append (λ (x : Claim). cond (p x) 1 0) xs ys

-- the pair word of the claims of a list on a record
abbrev pub word_on : ℕ → List Claim → ℕ
word_on r cs = pair_word_of (claims_on r cs)

pair_word_of-append : (xs ys : List Claim) → pair_word_of (xs ++ ys) ≡ pair_word_of xs + pair_word_of ys
pair_word_of-append xs ys = omega (arith, count_by-append is_write xs ys, count_by-append (λ c. not (is_write c)) xs ys)

pub word_on-append : (r : ℕ) (xs ys : List Claim) → word_on r (xs ++ ys) ≡ word_on r xs + word_on r ys
word_on-append r xs ys = rw (filter-append (λ (c : Claim). c.id == r) xs ys) (pair_word_of-append (claims_on r xs) (claims_on r ys))

delta_cases : (hit : Bool) (m : Mode) (i : ℕ) → pair_word_of (if hit then (let c : Claim = record { id = i; mode = m } in c ∷ []) else []) ≡ (if hit then delta_of m else 0)
delta_cases true Read i = refl
delta_cases true Write i = refl
delta_cases false m i = refl

pub word_on-one : (r : ℕ) (c : Claim) → word_on r (c ∷ []) ≡ delta_on r c
word_on-one r c = delta_cases (c.id == r) c.mode c.id

-- a request adds its delta to its record's counter, and changes no other
pub counter_request : (s : State) (turn : Turn) (c : Claim) (granted : Bool) (r : ℕ) → s.turn ≡ Some turn → slice_get turn.call.claims turn.requested ≡ Some c
    → counter (record s { turn = Some (record turn { requested = turn.requested + 1; granted = granted }) }) r ≡ counter s r + delta_on r c
counter_request s turn c granted r is next =
    rw (is, word_on-append r (flat_map open_of s.entries) (take (turn.requested + 1) turn.call.claims), word_on-append r (flat_map open_of s.entries) (take turn.requested turn.call.claims), take_next turn.call.claims turn.requested c next, word_on-append r (take turn.requested turn.call.claims) (c ∷ []), word_on-one r c) (omega arith)

entries_at : (xs : List Entered) (t : ℕ) (e : Entered) → slice_get xs t ≡ Some e → xs ≡ take t xs ++ e ∷ drop (t + 1) xs
entries_at xs t e h = sym (take-append-drop t xs) ∙ ap (λ ys. take t xs ++ ys) (drop_next xs t e h)

entries_set : (xs : List Entered) (t : ℕ) (e : Entered) (f : Entered) → slice_get xs t ≡ Some e → slice_set xs t f ≡ take t xs ++ f ∷ drop (t + 1) xs
entries_set xs t e f h = rw (add-one t) (set_split xs t f (slice_get_within xs t e h))

open_at : (a : List Entered) (e : Entered) (b : List Entered) → flat_map open_of (a ++ e ∷ b) ≡ flat_map open_of a ++ (open_of e ++ flat_map open_of b)
open_at a e b = rw (flat_map-append open_of a (e ∷ b), flat_map-cons open_of e b) refl

-- a release takes its delta from its record's counter, and changes no other
pub counter_release : (s : State) (t : ℕ) (e : Entered) (c : Claim) (r : ℕ) → slice_get s.entries t ≡ Some e → slice_get e.call.claims e.releases ≡ Some c
    → counter s r ≡ counter (with_entry s t (record e { releases = e.releases + 1 })) r + delta_on r c
counter_release s t e c r at next =
    let f : Entered = record e { releases = e.releases + 1 } in
    let a : List Entered = take t s.entries in
    let b : List Entered = drop (t + 1) s.entries in
    let rest : List Claim = requested_of s.turn in
    let old : flat_map open_of s.entries ≡ flat_map open_of a ++ (open_of e ++ flat_map open_of b) = ap (flat_map open_of) (entries_at s.entries t e at) ∙ open_at a e b in
    let new : flat_map open_of (slice_set s.entries t f) ≡ flat_map open_of a ++ (open_of f ++ flat_map open_of b) = ap (flat_map open_of) (entries_set s.entries t e f at) ∙ open_at a f b in
    let first : word_on r (open_of e) ≡ delta_on r c + word_on r (open_of f) =
    ap (word_on r) (drop_next e.call.claims e.releases c next) ∙ (word_on-append r (c ∷ []) (open_of f) ∙ ap (λ n. n + word_on r (open_of f)) (word_on-one r c)) in
    let left : counter s r ≡ (word_on r (flat_map open_of a) + (word_on r (open_of e) + word_on r (flat_map open_of b))) + word_on r rest =
    ap (λ xs. word_on r (xs ++ rest)) old ∙ (word_on-append r (flat_map open_of a ++ (open_of e ++ flat_map open_of b)) rest ∙ ap (λ n. n + word_on r rest) (word_on-append r (flat_map open_of a) (open_of e ++ flat_map open_of b) ∙ ap (λ n. word_on r (flat_map open_of a) + n) (word_on-append r (open_of e) (flat_map open_of b)))) in
    let right : counter (with_entry s t f) r ≡ (word_on r (flat_map open_of a) + (word_on r (open_of f) + word_on r (flat_map open_of b))) + word_on r rest =
    ap (λ xs. word_on r (xs ++ rest)) new ∙ (word_on-append r (flat_map open_of a ++ (open_of f ++ flat_map open_of b)) rest ∙ ap (λ n. n + word_on r rest) (word_on-append r (flat_map open_of a) (open_of f ++ flat_map open_of b) ∙ ap (λ n. word_on r (flat_map open_of a) + n) (word_on-append r (open_of f) (flat_map open_of b)))) in
    omega (arith, left, right, first)

-- an entry whose open claims stay changes no counter: loads, stores, statuses
pub counter_same : (s : State) (t : ℕ) (e f : Entered) (r : ℕ) → slice_get s.entries t ≡ Some e → open_of f ≡ open_of e → counter (with_entry s t f) r ≡ counter s r
counter_same s t e f r at same =
    let a : List Entered = take t s.entries in
    let b : List Entered = drop (t + 1) s.entries in
    let old : flat_map open_of s.entries ≡ flat_map open_of a ++ (open_of e ++ flat_map open_of b) = ap (flat_map open_of) (entries_at s.entries t e at) ∙ open_at a e b in
    let new : flat_map open_of (slice_set s.entries t f) ≡ flat_map open_of a ++ (open_of f ++ flat_map open_of b) = ap (flat_map open_of) (entries_set s.entries t e f at) ∙ open_at a f b in
    ap (λ xs. word_on r (xs ++ requested_of s.turn)) (new ∙ (ap (λ xs. flat_map open_of a ++ (xs ++ flat_map open_of b)) same ∙ sym old))
