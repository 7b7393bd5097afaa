-- Short lists in arrays, item by item, and the place of a claim.
use Rattle.std.proofs.Common.{◌≡◌, ℕ, zero, suc, ◌+◌, ◌-◌, ◌<◌, List, [], ◌∷◌, ◌++◌, length, take, set, get_or, replicate, refl, sym, ap, ◌∙◌, arith, append_assoc, length-append, add-one, if◌then◌else◌, ◌==◌, map}
use Rattle.vll_check.proofs.Common.{length-map, map-append, length-take-le, position_or_len, laid, Claim, place_of}
use Rattle.std.proofs.Math.Seq.{take-suc}
use Rattle.std.proofs.lemmas.List.Recursion.{is_position_or_len}

set-behind : {A : Type 0} (xs ys : List A) (b y : A) → set (xs ++ b ∷ ys) (length xs) y ≡ xs ++ y ∷ ys
set-behind [] ys b y = refl
set-behind (x ∷ xs) ys b y = ap (λ zs. x ∷ zs) (set-behind xs ys b y)

fill-cons : {A : Type 0} (m : ℕ) (b : A) → 0 < m → replicate m b ≡ b ∷ replicate (m - 1) b
fill-cons zero b some = absurd (omega arith)
fill-cons (suc m) b some = ap (λ n. b ∷ replicate n b) (omega arith)

-- one more item, in the first place that has none
pub laid-push : {A : Type 0} (n : ℕ) (b y : A) (xs : List A) → length xs < n → set (laid n b xs) (length xs) y ≡ laid n b (xs ++ y ∷ [])
laid-push n b y xs room =
    let fewer : n - length xs - 1 ≡ n - length (xs ++ y ∷ []) = omega (arith, length-append xs (y ∷ [])) in
    ap (λ ys. set (xs ++ ys) (length xs) y) (fill-cons (n - length xs) b (omega arith))
    ∙ set-behind xs (replicate (n - length xs - 1) b) b y
    ∙ sym (append_assoc xs (y ∷ []) (replicate (n - length xs - 1) b))
    ∙ ap (λ m. (xs ++ y ∷ []) ++ replicate m b) fewer

-- the place of a record's claim is that of the first claim for it
pub place_of-first : (cs : List Claim) (r : ℕ) → place_of cs r ≡ position_or_len (λ (c : Claim). c.id == r) cs
place_of-first cs r = is_position_or_len (λ (ds : List Claim). place_of ds r) (λ (c : Claim). c.id == r) refl (λ c ds. ap (λ (n : ℕ). if c.id == r then 0 else n) (omega arith)) cs

-- the next of the items that are laid
pub laid-next : (n : ℕ) (xs : List ℕ) (i y : ℕ) → i < length xs → i < n → y ≡ get_or xs i 0 → set (laid n 0 (take i xs)) i y ≡ laid n 0 (take (i + 1) xs)
laid-next n xs i y within room is =
    let whole : length (take i xs) ≡ i = length-take-le i xs (omega arith) in
    let more : take (i + 1) xs ≡ take i xs ++ y ∷ [] = ap (λ m. take m xs) (add-one i) ∙ take-suc xs i 0 within ∙ ap (λ z. take i xs ++ z ∷ []) (sym is) in
    ap (λ m. set (laid n 0 (take i xs)) m y) (sym whole) ∙ laid-push n 0 y (take i xs) (omega arith) ∙ ap (laid n 0) (sym more)

-- as `laid-next`, for the items under f
pub laid-mapped : {A : Type 0} (f : A → ℕ) (n : ℕ) (xs : List A) (i : ℕ) (d : A) (y : ℕ) → i < length xs → i < n → y ≡ f (get_or xs i d) → set (laid n 0 (map f (take i xs))) i y ≡ laid n 0 (map f (take (i + 1) xs))
laid-mapped f n xs i d y within room is =
    let whole : length (map f (take i xs)) ≡ i = length-map (take i xs) f ∙ length-take-le i xs (omega arith) in
    let more : map f (take (i + 1) xs) ≡ map f (take i xs) ++ y ∷ [] =
    ap (map f) (ap (λ m. take m xs) (add-one i) ∙ take-suc xs i d within) ∙ map-append f (take i xs) (get_or xs i d ∷ []) ∙ ap (λ z. map f (take i xs) ++ z ∷ []) (sym is) in
    ap (λ m. set (laid n 0 (map f (take i xs))) m y) (sym whole) ∙ laid-push n 0 y (map f (take i xs)) (omega arith) ∙ ap (laid n 0) (sym more)
