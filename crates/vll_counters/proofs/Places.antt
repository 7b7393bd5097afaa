-- Which item is at which place of a list, and which seat has what.
use Rattle.std.proofs.Common.{◌≡◌, ◌≢◌, ◌⊎◌, ℕ, zero, suc, ◌<◌, List, [], ◌∷◌, ◌++◌, length, sym, ap, arith, Some, None, inl, inr, refl, slice_get}
use Rattle.vll_counters.proofs.Common.{◌==◌, if◌then◌else◌, slice_set, nat_tests}
use mathlib.Core.Option.{some, some-injective, some-ne-none}
use lib.ListN.{get_elem?}

pub no_some : {A P : Type 0} (a : A) → None ≡ Some a → P
no_some a e = absurd (cc e)

pub at_below : {A : Type 0} (l : List A) (k : ℕ) (a : A) → get_elem? l k ≡ some a → k < length l
at_below [] k a e = absurd (some-ne-none a (sym e))
at_below (x ∷ xs) zero a e = omega arith
at_below (x ∷ xs) (suc k) a e = let h = at_below xs k a e in omega (arith, h)

-- an item of a list with one more after it
pub at_end : {A : Type 0} (l : List A) (a b : A) (k : ℕ) → get_elem? (l ++ a ∷ []) k ≡ some b → (get_elem? l k ≡ some b) ⊎ ((k ≡ length l) × (a ≡ b))
at_end [] a b zero e = inr (refl, some-injective a b e)
at_end [] a b (suc k) e = absurd (some-ne-none b (sym e))
at_end (x ∷ xs) a b zero e = inl e
at_end (x ∷ xs) a b (suc k) e = by_place (at_end xs a b k e)
  where
    by_place : (get_elem? xs k ≡ some b) ⊎ ((k ≡ length xs) × (a ≡ b)) → (get_elem? (x ∷ xs) (suc k) ≡ some b) ⊎ ((suc k ≡ length (x ∷ xs)) × (a ≡ b))
    by_place (inl h) = inl h
    by_place (inr h) = inr (ap suc h.0, h.1)

-- a list goes on after its items
pub get_longer : {A : Type 0} (xs ys : List A) (k : ℕ) (a : A) → slice_get xs k ≡ Some a → slice_get (xs ++ ys) k ≡ Some a
get_longer [] ys k a e = absurd (cc e)
get_longer (x ∷ xs) ys zero a e = e
get_longer (x ∷ xs) ys (suc k) a e = get_longer xs ys k a e

pub get_last : {A : Type 0} (xs : List A) (a : A) → slice_get (xs ++ a ∷ []) (length xs) ≡ Some a
get_last [] a = refl
get_last (x ∷ xs) a = get_last xs a

-- past the end there is nothing
pub get_past : {A : Type 0} (xs : List A) → slice_get xs (length xs) ≡ None
get_past [] = refl
get_past (x ∷ xs) = get_past xs

pub past_more : {A : Type 0} (xs : List A) (n : ℕ) (a : A) → n ≢ length xs → slice_get xs n ≡ None → slice_get (xs ++ a ∷ []) n ≡ None
past_more [] zero a apart none = absurd (apart refl)
past_more [] (suc n) a apart none = refl
past_more (x ∷ xs) zero a apart none = absurd (cc none)
past_more (x ∷ xs) (suc n) a apart none = past_more xs n a (λ e. apart (ap suc e)) none

pub get_set_else : {A : Type 0} (xs : List A) (i k : ℕ) (a : A) → k ≢ i → slice_get (slice_set xs i a) k ≡ slice_get xs k
get_set_else [] i k a apart = refl
get_set_else (x ∷ xs) zero zero a apart = absurd (apart refl)
get_set_else (x ∷ xs) zero (suc k) a apart = refl
get_set_else (x ∷ xs) (suc i) zero a apart = refl
get_set_else (x ∷ xs) (suc i) (suc k) a apart = get_set_else xs i k a (λ e. apart (ap suc e))

-- one number is sent to another seat
abbrev pub seat_with : (ℕ → ℕ) → ℕ → ℕ → ℕ → ℕ
seat_with seat_of t seat n = if n == t then seat else seat_of n

pub seat_here : (seat_of : ℕ → ℕ) (t seat : ℕ) → seat_with seat_of t seat t ≡ seat
seat_here seat_of t seat = grind (arith, nat_tests)

pub seat_else : (seat_of : ℕ → ℕ) (t seat n : ℕ) → n ≢ t → seat_with seat_of t seat n ≡ seat_of n
seat_else seat_of t seat n apart = grind (arith, nat_tests)
