-- Which item stands at which place of a list.
use Rattle.std.proofs.Common.{◌≡◌, ◌≢◌, ℕ, zero, suc, Bool, true, false, not, refl, sym, arith, ◌<◌, ◌≤◌, ◌⊎◌, inl, inr, ◌+◌, List, [], ◌∷◌, length, drop, ap, ◌∙◌, subst, slice_get, slice_set, Some, cond, ◌++◌, take, add-one, ⊎_elim, All}
use Rattle.vll_core.proofs.Common.{take-suc, drop-cons, slice_get_within, get_or_from_slice_get, same_Some, position_or_len, Entered, Claim}

pub take_next : {A : Type 0} (xs : List A) (n : ℕ) (x : A) → slice_get xs n ≡ Some x → take (n + 1) xs ≡ take n xs ++ x ∷ []
take_next xs n x h = rw (add-one n, take-suc xs n x (slice_get_within xs n x h), get_or_from_slice_get xs n x x h) refl

pub drop_next : {A : Type 0} (xs : List A) (n : ℕ) (x : A) → slice_get xs n ≡ Some x → drop n xs ≡ x ∷ drop (n + 1) xs
drop_next xs n x h = rw (add-one n, drop-cons xs n x (slice_get_within xs n x h), get_or_from_slice_get xs n x x h) refl

-- nothing is left after the last claim
pub drop_none : (n : ℕ) (cs : List Claim) → length cs ≤ n → drop n cs ≡ []
drop_none zero [] h = refl
drop_none (suc n) [] h = refl
drop_none zero (c ∷ cs) h = absurd (omega (arith, h))
drop_none (suc n) (c ∷ cs) h = drop_none n cs (omega (arith, h))

-- what holds of each item holds of that at a place
pub all_at : {X : Type 0} (P : X → Type 0) (xs : List X) (n : ℕ) (x : X) → All P xs → slice_get xs n ≡ Some x → P x
all_at P xs n x all at = subst P (get_or_from_slice_get xs n x x at) (all n x (slice_get_within xs n x at))

-- each place within a list has an item
pub entry_at : {A : Type 0} (xs : List A) (n : ℕ) → n < length xs → (x : A) × (slice_get xs n ≡ Some x)
entry_at [] n h = absurd (omega arith)
entry_at (x ∷ xs) zero h = (x, refl)
entry_at (x ∷ xs) (suc n) h = entry_at xs n (omega arith)

-- an item of a list with one place changed
pub at_set : {X : Type 0} (es : List X) (t : ℕ) (f : X) (v : ℕ) (d : X) → slice_get (slice_set es t f) v ≡ Some d → ((v ≡ t) × (d ≡ f)) ⊎ (slice_get es v ≡ Some d)
at_set [] t f v d at = inr at
at_set (x ∷ es) zero f zero d at = inl (refl, sym (same_Some f d at))
at_set (x ∷ es) zero f (suc v) d at = inr at
at_set (x ∷ es) (suc t) f zero d at = inr at
at_set (x ∷ es) (suc t) f (suc v) d at = ⊎_elim (λ p. inl (ap suc p.0, p.1)) (λ p. inr p) (at_set es t f v d at)

-- the item that was put
pub get_set : {X : Type 0} (es : List X) (t : ℕ) (e f : X) → slice_get es t ≡ Some e → slice_get (slice_set es t f) t ≡ Some f
get_set [] t e f at = absurd (cc at)
get_set (x ∷ es) zero e f at = refl
get_set (x ∷ es) (suc t) e f at = get_set es t e f at

-- the other items stay
pub get_set_other : {X : Type 0} (es : List X) (t : ℕ) (f : X) (v : ℕ) → v ≢ t → slice_get (slice_set es t f) v ≡ slice_get es v
get_set_other [] t f v apart = refl
get_set_other (x ∷ es) zero f zero apart = absurd (apart refl)
get_set_other (x ∷ es) zero f (suc v) apart = refl
get_set_other (x ∷ es) (suc t) f zero apart = refl
get_set_other (x ∷ es) (suc t) f (suc v) apart = get_set_other es t f v (λ same. apart (ap suc same))

-- an item of a list with one more after it
pub at_push : {X : Type 0} (es : List X) (x : X) (t : ℕ) (e : X) → slice_get (es ++ x ∷ []) t ≡ Some e → (slice_get es t ≡ Some e) ⊎ ((t ≡ length es) × (e ≡ x))
at_push [] x zero e at = inr (refl, sym (same_Some x e at))
at_push [] x (suc t) e at = absurd (cc at)
at_push (y ∷ es) x zero e at = inl at
at_push (y ∷ es) x (suc t) e at = ⊎_elim (λ k. inl k) (λ p. inr (ap suc p.0, p.1)) (at_push es x t e at)

-- a list keeps its items if one more is added at its end
pub get_pushed : {X : Type 0} (es : List X) (x : X) (t : ℕ) (e : X) → slice_get es t ≡ Some e → slice_get (es ++ x ∷ []) t ≡ Some e
get_pushed [] x t e at = absurd (cc at)
get_pushed (y ∷ es) x zero e at = at
get_pushed (y ∷ es) x (suc t) e at = get_pushed es x t e at

-- no item before the first that passes a test passes it
pub below_position : (p : Entered → Bool) (es : List Entered) (v : ℕ) (e : Entered) → v < position_or_len p es → slice_get es v ≡ Some e → p e ≡ false
below_position p [] v e low at = absurd (cc at)
below_position p (x ∷ es) v e low at = step (p x) refl (λ w. below_position p es w e) v low at
  where
    step : (b : Bool) → p x ≡ b → ((w : ℕ) → w < position_or_len p es → slice_get es w ≡ Some e → p e ≡ false)
        → (v : ℕ) → v < cond (not b) (1 + position_or_len p es) 0 → slice_get (x ∷ es) v ≡ Some e → p e ≡ false
    step true is ih v low at = absurd (omega (arith, low))
    step false is ih zero low at = ap p (sym (same_Some x e at)) ∙ is
    step false is ih (suc v) low at = ih v (omega (arith, low)) at
