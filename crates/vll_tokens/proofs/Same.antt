-- Lists of the same clients.
use Rattle.std.proofs.Common.{◌≡◌, ◌≢◌, ℕ, suc, ◌<◌, ⊎_elim, List, [], ◌∷◌, ◌++◌, length, refl, sym, ap, ◌∙◌, subst, arith, true, false, ◌==◌, if◌then◌else◌}
use Rattle.std.specs.Prelude.{IsPermutation, sum_by}
use Rattle.std.proofs.lemmas.Bool.Decides.{eqb_tells}
use Rattle.std.proofs.lemmas.List.{append_assoc}
use Rattle.std.proofs.lemmas.List.Sums.{sum_by-append, sum_by-cons}
use Rattle.std.proofs.lemmas.List.Sorted.{IsPermutation-append_left, IsPermutation-cons, IsPermutation-refl, IsPermutation-sym, IsPermutation-to_front, IsPermutation-trans}
use Rattle.vll_tokens.specs.Pool.{AreSame}

-- each weighs one: the list weighs its length
pub counts : {A : Type 0} (xs : List A) → sum_by (λ (x : A). 1) xs ≡ length xs
counts [] = refl
counts {A} (x ∷ xs) = let c = sum_by-cons (λ (y : A). 1) x xs in let r = counts xs in omega arith

pub as_many : (a b : List ℕ) → AreSame a b → length a ≡ length b
as_many a b same = sym (counts a) ∙ same (λ x. 1) ∙ counts b

-- one list less
pub same_rest : (x : ℕ) (a b : List ℕ) → AreSame (x ∷ a) (x ∷ b) → AreSame a b
same_rest x a b same h = let s = same h in let p = sum_by-cons h x a in let q = sum_by-cons h x b in omega arith

pub same_more : (x : ℕ) (a b : List ℕ) → AreSame a b → AreSame (x ∷ a) (x ∷ b)
same_more x a b same h = let s = same h in let p = sum_by-cons h x a in let q = sum_by-cons h x b in omega arith

-- one in the middle, or in front
pub same_front : (x : ℕ) (a b : List ℕ) → AreSame (a ++ x ∷ b) (x ∷ a ++ b)
same_front x a b h =
    let p = sum_by-append h a (x ∷ b) in let q = sum_by-cons h x b in let r = sum_by-cons h x (a ++ b) in let s = sum_by-append h a b in omega arith

pub same_both : (a b c d : List ℕ) → AreSame a b → AreSame c d → AreSame (a ++ c) (b ++ d)
same_both a b c d one two h = let p = sum_by-append h a c in let q = sum_by-append h b d in let s = one h in let t = two h in omega arith

-- 1 for a client, and 0 for each other
abbrev is_it : ℕ → ℕ → ℕ
is_it x y = if y == x then 1 else 0

is_itself : (x : ℕ) → is_it x x ≡ 1
is_itself x = ⊎_elim
    (λ (same : ((x == x) ≡ true) × (x ≡ x)). rw same.0 refl)
    (λ (apart : ((x == x) ≡ false) × (x ≢ x)). absurd (apart.1 refl))
    (eqb_tells x x)

-- the place of a client
record Split (x : ℕ) (xs : List ℕ) : Type 0 where
  before : List ℕ
  behind : List ℕ
  is : xs ≡ before ++ x ∷ behind

split_at : (x : ℕ) (xs : List ℕ) → 0 < sum_by (is_it x) xs → Split x xs
split_at x [] some = absurd (omega (arith, some))
split_at x (y ∷ ys) some = ⊎_elim
    (λ (same : ((y == x) ≡ true) × (y ≡ x)). record { before = []; behind = ys; is = ap (λ (z : ℕ). z ∷ ys) same.1 })
    (λ (apart : ((y == x) ≡ false) × (y ≢ x)).
    let none : is_it x y ≡ 0 = rw apart.0 refl in
    let rest = split_at x ys (let c = sum_by-cons (is_it x) y ys in omega (arith, some, none, c)) in
    record { before = y ∷ rest.before; behind = rest.behind; is = ap (λ (l : List ℕ). y ∷ l) rest.is })
    (eqb_tells y x)

none_left : (xs : List ℕ) → AreSame [] xs → xs ≡ []
none_left [] same = refl
none_left (x ∷ xs) same = let n : 0 ≡ suc (length xs) = as_many [] (x ∷ xs) same in absurd (omega (arith, n))

to_front : (x : ℕ) (a b : List ℕ) → IsPermutation (x ∷ a ++ b) (a ++ x ∷ b)
to_front x a b =
    let front : IsPermutation (x ∷ a) (a ++ x ∷ []) = IsPermutation-sym (a ++ x ∷ []) (x ∷ a) (IsPermutation-to_front a x) in
    subst (IsPermutation (x ∷ a ++ b)) (append_assoc a (x ∷ []) b) (IsPermutation-append_left b (x ∷ a) (a ++ x ∷ []) front)

-- the same clients, each as often, in another order
pub permutation : (a b : List ℕ) → AreSame a b → IsPermutation a b
permutation [] b same = subst (IsPermutation []) (sym (none_left b same)) (IsPermutation-refl [])
permutation (x ∷ a) b same =
    let there : 0 < sum_by (is_it x) b =
    (let s = same (is_it x) in let c = sum_by-cons (is_it x) x a in let i = is_itself x in omega (arith, s, c, i)) in
    let at = split_at x b there in
    let rest : AreSame a (at.before ++ at.behind) =
    (λ h. let s = same h in let e : sum_by h b ≡ sum_by h (at.before ++ x ∷ at.behind) = ap (sum_by h) at.is in
    let f = same_front x at.before at.behind h in let p = sum_by-cons h x a in let q = sum_by-cons h x (at.before ++ at.behind) in omega (arith, s, e, f, p, q)) in
    let moved : IsPermutation (x ∷ a) (x ∷ at.before ++ at.behind) = IsPermutation-cons x a (at.before ++ at.behind) (permutation a (at.before ++ at.behind) rest) in
    subst (IsPermutation (x ∷ a)) (sym at.is) (IsPermutation-trans (x ∷ a) (x ∷ at.before ++ at.behind) (at.before ++ x ∷ at.behind) moved (to_front x at.before at.behind))
