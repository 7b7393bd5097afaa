-- What two lists of the same length both have, place by place.
use Rattle.std.proofs.Common.{◌≡◌, ℕ, zero, suc, ◌+◌, ◌<◌, ◌≤◌, Bool, false, ◌&&◌, [], ◌∷◌, length, get_or, slice_set, ⊎_elim, refl, sym, ap, ◌∙◌, arith}
use Rattle.vll_check.proofs.Common.{cases_lt, get_or-set_at, get_or-set_other, ext_get_or, length-set, Locals, both_set}

length-both_set : (a b : Locals) → length a ≡ length b → length (both_set a b) ≡ length a
length-both_set [] b same = refl
length-both_set (x ∷ xs) [] same = absurd (omega arith)
length-both_set (x ∷ xs) (y ∷ ys) same = ap suc (length-both_set xs ys (omega arith))

get_or-both_set : (a b : Locals) (i : ℕ) → length a ≡ length b → get_or (both_set a b) i false ≡ (get_or a i false && get_or b i false)
get_or-both_set [] b i same = refl
get_or-both_set (x ∷ xs) [] i same = absurd (omega arith)
get_or-both_set (x ∷ xs) (y ∷ ys) zero same = refl
get_or-both_set (x ∷ xs) (y ∷ ys) (suc i) same = get_or-both_set xs ys i (omega arith)

-- the places below i have what both have, and the others are as they were
pub record IsBothBelow (a b set : Locals) (i : ℕ) : Type 0 where
  pub long : length set ≡ length a
  pub before : (k : ℕ) → k < i → get_or set k false ≡ get_or (both_set a b) k false
  pub behind : (k : ℕ) → i ≤ k → get_or set k false ≡ get_or a k false

pub IsBothBelow-step : (a b set : Locals) (i : ℕ) → length a ≡ length b → i < length a → IsBothBelow a b set i
    → IsBothBelow a b (slice_set set i (get_or set i false && get_or b i false)) (i + 1)
IsBothBelow-step a b set i same within below =
    let here : (get_or set i false && get_or b i false) ≡ get_or (both_set a b) i false = ap (λ (x : Bool). x && get_or b i false) (below.behind i (omega arith)) ∙ sym (get_or-both_set a b i same) in
    let long = below.long in
    let next : Bool = get_or set i false && get_or b i false in
    record {
      long = length-set set i next ∙ long;
      before = λ k lt.
          ⊎_elim
          (λ (less : k < i). get_or-set_other set i k next false (omega arith) ∙ below.before k less)
          (λ (not_less : i ≤ k).
          let at : k ≡ i = omega arith in
          get_or-set_at set i k next false at (omega arith) ∙ here ∙ ap (λ (n : ℕ). get_or (both_set a b) n false) (sym at))
          (cases_lt k i);
      behind = λ k le. get_or-set_other set i k next false (omega arith) ∙ below.behind k (omega arith);
    }

pub IsBothBelow-end : (a b set : Locals) (i : ℕ) → length a ≡ length b → length a ≤ i → IsBothBelow a b set i → set ≡ both_set a b
IsBothBelow-end a b set i same end below =
    ext_get_or false set (both_set a b) (below.long ∙ sym (length-both_set a b same)) (λ k lt. below.before k (omega (arith, below.long)))
