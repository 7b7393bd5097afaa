-- Which tickets are clear: open claims of lower tickets only go.
use Rattle.std.proofs.Common.{◌≡◌, ℕ, zero, suc, Bool, true, false, not, refl, sym, arith, ◌<◌, ◌≤◌, List, [], ◌∷◌, length, drop, ap, ◌∙◌, subst, slice_get, slice_set, Some, ◌++◌, take, Option, length-set}
use Rattle.vll_core.proofs.Common.{take-length, same_Some, list_any, flat_map, Entered, State, Turn, open_of, is_clear, Claim, list_any-append, take-append-le, conflict, conflicts, or_parts, or_from, or_left, or_right, flat_map-cons}
use Rattle.vll_core.proofs.Tests.{not_yes}

none_in : (p : Claim → Bool) (e : Entered) (es : List Entered) → list_any p (open_of e) ≡ false → list_any p (flat_map open_of es) ≡ false
    → list_any p (flat_map open_of (e ∷ es)) ≡ false
none_in p e es h k = rw (flat_map-cons open_of e es, list_any-append p (open_of e) (flat_map open_of es)) (or_from _ _ h k)

pub none_of : (p : Claim → Bool) (e : Entered) (es : List Entered) → list_any p (flat_map open_of (e ∷ es)) ≡ false
    → (list_any p (open_of e) ≡ false) × (list_any p (flat_map open_of es) ≡ false)
none_of p e es h = or_parts _ _ (sym (list_any-append p (open_of e) (flat_map open_of es)) ∙ (ap (list_any p) (sym (flat_map-cons open_of e es)) ∙ h))

-- where an entry's open claims only go, what met none of the first t entries still meets none
pub fewer : (p : Claim → Bool) (es : List Entered) (t u : ℕ) (f : Entered)
    → ((e : Entered) → slice_get es u ≡ Some e → list_any p (open_of e) ≡ false → list_any p (open_of f) ≡ false)
    → list_any p (flat_map open_of (take t es)) ≡ false → list_any p (flat_map open_of (take t (slice_set es u f))) ≡ false
fewer p [] t u f less h = h
fewer p (e ∷ es) zero u f less h = h
fewer p (e ∷ es) (suc t) zero f less h = let k = none_of p e (take t es) h in none_in p f (take t es) (less e refl k.0) k.1
fewer p (e ∷ es) (suc t) (suc u) f less h = let k = none_of p e (take t es) h in none_in p e (take t (slice_set es u f)) k.0 (fewer p es t u f less k.1)

-- what met no open claim still meets none
abbrev pub Fewer : Entered → Entered → Type 0
Fewer e f = (p : Claim → Bool) → list_any p (open_of e) ≡ false → list_any p (open_of f) ≡ false

pub fewer_open : (p : Claim → Bool) (es : List Entered) (t : ℕ) (e f : Entered) → slice_get es t ≡ Some e → Fewer e f
    → list_any p (flat_map open_of es) ≡ false → list_any p (flat_map open_of (slice_set es t f)) ≡ false
fewer_open p es t e f at less h =
    ap (λ xs. list_any p (flat_map open_of xs)) (sym (take-length (slice_set es t f)) ∙ ap (λ n. take n (slice_set es t f)) (length-set es t f))
    ∙ fewer p es (length es) t f (λ d here. subst (λ x. list_any p (open_of x) ≡ false → list_any p (open_of f) ≡ false) (same_Some e d (sym at ∙ here)) (less p))
    (ap (λ xs. list_any p (flat_map open_of xs)) (take-length es) ∙ h)

-- an entry below t whose open claims pass a test
pub lower : (p : Claim → Bool) (es : List Entered) (t u : ℕ) (e : Entered) → u < t → slice_get es u ≡ Some e → list_any p (open_of e) ≡ true
    → list_any p (flat_map open_of (take t es)) ≡ true
lower p [] t u e below at here = absurd (cc at)
lower p (x ∷ xs) zero u e below at here = absurd (omega arith)
lower p (x ∷ xs) (suc t) zero e below at here =
    rw (flat_map-cons open_of x (take t xs), list_any-append p (open_of x) (flat_map open_of (take t xs))) (or_left _ _ (subst (λ d. list_any p (open_of d) ≡ true) (sym (same_Some x e at)) here))
lower p (x ∷ xs) (suc t) (suc u) e below at here =
    rw (flat_map-cons open_of x (take t xs), list_any-append p (open_of x) (flat_map open_of (take t xs))) (or_right _ _ (lower p xs t u e (omega arith) at here))

-- a call that conflicts with no lower one can't be below an open claim that it meets
pub no_lower : (s : State) (t u : ℕ) (e d : Entered) → u < t → slice_get s.entries u ≡ Some d → d.releases ≡ 0 → is_clear s t e.call.claims ≡ true
    → list_any (λ (x : Claim). list_any (conflicts x) e.call.claims) d.call.claims ≡ true → ⊥
no_lower s t u e d below at zero_released clear here =
    let p : Claim → Bool = λ x. list_any (conflicts x) e.call.claims in
    let all : open_of d ≡ d.call.claims = ap (λ n. drop n d.call.claims) zero_released in
    let found : list_any p (flat_map open_of (take t s.entries)) ≡ true = lower p s.entries t u d below at (ap (list_any p) all ∙ here) in
    cc (sym found ∙ not_yes _ clear)

-- entering leaves every clear ticket clear
pub clear_admit : (s : State) (t : ℕ) (e : Entered) (turn : Option Turn) (cs : List Claim) → t ≤ length s.entries
    → is_clear (record s { entries = s.entries ++ e ∷ []; turn = turn }) t cs ≡ is_clear s t cs
clear_admit s t e turn cs within = ap (λ es. not (conflict (flat_map open_of es) cs)) (take-append-le t s.entries (e ∷ []) within)

-- entries of which none has an open claim have none together
pub none_open : (es : List Entered) (t : ℕ) → ((v : ℕ) (e : Entered) → v < t → slice_get es v ≡ Some e → open_of e ≡ []) → flat_map open_of (take t es) ≡ []
none_open es zero h = refl
none_open [] (suc t) h = refl
none_open (e ∷ es) (suc t) h =
    flat_map-cons open_of e (take t es) ∙ (ap (λ xs. xs ++ flat_map open_of (take t es)) (h 0 e (omega arith) refl) ∙ none_open es t (λ v d low at. h (suc v) d (omega (arith, low)) at))

-- what meets an open claim of none of the first t entries meets none of these
pub none_met : (p : Claim → Bool) (es : List Entered) (t : ℕ) → ((v : ℕ) (e : Entered) → v < t → slice_get es v ≡ Some e → list_any p (open_of e) ≡ false)
    → list_any p (flat_map open_of (take t es)) ≡ false
none_met p es zero h = refl
none_met p [] (suc t) h = refl
none_met p (e ∷ es) (suc t) h = none_in p e (take t es) (h 0 e (omega arith) refl) (none_met p es t (λ v d low at. h (suc v) d (omega (arith, low)) at))
