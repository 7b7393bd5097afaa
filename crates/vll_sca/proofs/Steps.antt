-- Whether one of a list passes, as a loop finds it item by item.
use Rattle.std.proofs.Common.{◌≡◌, ℕ, zero, suc, ◌+◌, Bool, true, false, List, [], ◌∷◌, map, take, slice_get, Some, None, refl, sym, ap, ◌∙◌, subst, arith}
use Rattle.vll_sca.proofs.Common.{list_any, or_left, or_right, or_from, or_parts, none-some, same_Some}

module _ {X Y : Type 0} (p : Y → Bool) (h : X → Y) where
  pub any_at : (xs : List X) (i : ℕ) (x : X) → Some x ≡ slice_get xs i → true ≡ p (h x) → true ≡ list_any p (map h xs)
  any_at [] i x here is = absurd (none-some x (sym here))
  any_at (y ∷ ys) zero x here is = sym (or_left (p (h y)) _ (ap (λ z. p (h z)) (same_Some y x (sym here)) ∙ sym is))
  any_at (y ∷ ys) (suc i) x here is = sym (or_right (p (h y)) _ (sym (any_at ys i x here is)))

  next_by_suc : (xs : List X) (i : ℕ) → ((x : X) → slice_get xs i ≡ Some x → p (h x) ≡ false) → list_any p (map h (take i xs)) ≡ false → list_any p (map h (take (suc i) xs)) ≡ false
  next_by_suc [] i not_here none = refl
  next_by_suc (y ∷ ys) zero not_here none = or_from (p (h y)) false (not_here y refl) refl
  next_by_suc (y ∷ ys) (suc i) not_here none =
      let parts = or_parts (p (h y)) (list_any p (map h (take i ys))) none in
      or_from (p (h y)) _ parts.0 (next_by_suc ys i not_here parts.1)

  next : (xs : List X) (i : ℕ) → ((x : X) → slice_get xs i ≡ Some x → p (h x) ≡ false) → list_any p (map h (take i xs)) ≡ false → list_any p (map h (take (i + 1) xs)) ≡ false
  next xs i not_here none = subst (λ n. list_any p (map h (take n xs)) ≡ false) (let e : suc i ≡ i + 1 = omega arith in e) (next_by_suc xs i not_here none)

  -- the next item does not pass
  pub none_at : (xs : List X) (i : ℕ) (x : X) → Some x ≡ slice_get xs i → false ≡ p (h x) → list_any p (map h (take i xs)) ≡ false → list_any p (map h (take (i + 1) xs)) ≡ false
  none_at xs i x here is none = next xs i (λ y at. subst (λ z. p (h z) ≡ false) (same_Some x y (here ∙ at)) (sym is)) none

  -- there is no next item
  pub none_past : (xs : List X) (i : ℕ) → None ≡ slice_get xs i → list_any p (map h (take i xs)) ≡ false → list_any p (map h (take (i + 1) xs)) ≡ false
  none_past xs i past none = next xs i (λ y at. absurd (none-some y (past ∙ at))) none
