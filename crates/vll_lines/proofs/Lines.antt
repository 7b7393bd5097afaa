-- The lines of an input, line by line.
use Rattle.std.proofs.Common.{◌≡◌, ℕ, zero, suc, ◌+◌, ◌-◌, ◌<◌, Bool, true, false, ◌||◌, ◌==◌, List, [], ◌∷◌, ◌++◌, refl, sym, ap, ◌∙◌, length, length-drop, drop, take, take_all, slice_index, arith, rules, if◌then◌else◌}
use Rattle.vll_lines.specs.Lines.{at_front, has_feed, lines_in}

or_false : (a b : Bool) → (a || b) ≡ false → (a ≡ false) × (b ≡ false)
or_false true b none = absurd (search rules)
or_false false b none = (refl, none)

one_more : (b : ℕ) (bytes : List ℕ) → (b == 10) ≡ false → lines_in (b ∷ bytes) ≡ at_front b (lines_in bytes)
one_more b bytes other = ap (λ (x : Bool). if x then [] ∷ lines_in bytes else at_front b (lines_in bytes)) other

-- a complete line
pub lines_ended : (l rest : List ℕ) → has_feed l ≡ false → lines_in (l ++ 10 ∷ rest) ≡ l ∷ lines_in rest
lines_ended [] rest none = refl
lines_ended (b ∷ l) rest none =
    let parts = or_false (b == 10) (has_feed l) none in
    one_more b (l ++ 10 ∷ rest) parts.0 ∙ ap (at_front b) (lines_ended l rest parts.1)

-- a line at the end of the input
pub lines_last : (b : ℕ) (l : List ℕ) → has_feed (b ∷ l) ≡ false → lines_in (b ∷ l) ≡ (b ∷ l) ∷ []
lines_last b [] none = one_more b [] (or_false (b == 10) (has_feed []) none).0
lines_last b (c ∷ l) none =
    let parts = or_false (b == 10) (has_feed (c ∷ l)) none in
    one_more b (c ∷ l) parts.0 ∙ ap (at_front b) (lines_last c l parts.1)

-- no line feed is in two lists, one after the other
pub no_feed_after : (a b : List ℕ) → has_feed a ≡ false → has_feed b ≡ false → has_feed (a ++ b) ≡ false
no_feed_after [] b first second = second
no_feed_after (x ∷ a) b first second =
    let parts = or_false (x == 10) (has_feed a) first in
    ap (λ (y : Bool). y || has_feed (a ++ b)) parts.0 ∙ no_feed_after a b parts.1 second

or_both : (a b : Bool) → ¬ (a ≡ true) → b ≡ false → (a || b) ≡ false
or_both true b isnt none = absurd (isnt refl)
or_both false b isnt none = none

-- no line feed is at any place
pub no_feed : (bytes : List ℕ) → ((k : ℕ) → k < length bytes → ¬ ((slice_index bytes k == 10) ≡ true)) → has_feed bytes ≡ false
no_feed [] none = refl
no_feed (b ∷ bytes) none = or_both (b == 10) (has_feed bytes) (none 0 (omega arith)) (no_feed bytes (λ k low. none (suc k) (omega (arith, low))))

-- bytes around a line feed
pub cut_here : (bytes : List ℕ) (k : ℕ) → k < length bytes → slice_index bytes k ≡ 10 → bytes ≡ take k bytes ++ 10 ∷ drop (suc k) bytes
cut_here [] k low here = absurd (omega (arith, low))
cut_here (b ∷ bytes) zero low here = ap (λ (x : ℕ). x ∷ bytes) here
cut_here (b ∷ bytes) (suc k) low here = ap (λ (l : List ℕ). b ∷ l) (cut_here bytes k (omega (arith, low)) here)

-- the same, as slices are taken
pub cut_at : (bytes : List ℕ) (k : ℕ) → k < length bytes → slice_index bytes k ≡ 10 → bytes ≡ take k bytes ++ 10 ∷ take (length bytes - (k + 1)) (drop (k + 1) bytes)
cut_at bytes k low here =
    cut_here bytes k low here
    ∙ (ap (λ (n : ℕ). take k bytes ++ 10 ∷ drop n bytes) (let e : suc k ≡ k + 1 = omega arith in e)
    ∙ ap (λ (l : List ℕ). take k bytes ++ 10 ∷ l) (sym (take_all (length bytes - (k + 1)) (drop (k + 1) bytes) (omega (arith, length-drop (k + 1) bytes)))))

-- no line feed is at any place before this one
pub no_feed_before : (bytes : List ℕ) (k : ℕ) → ((i : ℕ) → i < k → ¬ ((slice_index bytes i == 10) ≡ true)) → has_feed (take k bytes) ≡ false
no_feed_before bytes zero none = refl
no_feed_before [] (suc k) none = refl
no_feed_before (b ∷ bytes) (suc k) none = or_both (b == 10) (has_feed (take k bytes)) (none 0 (omega arith)) (no_feed_before bytes k (λ i low. none (suc i) (omega (arith, low))))
