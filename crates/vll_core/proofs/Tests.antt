-- What follows from tests of numbers and of truth values.
use Rattle.std.proofs.Common.{◌≡◌, ℕ, zero, suc, Bool, true, false, ◌==◌, ◌&&◌, not, refl, sym, arith, ◌<◌, ◌≤◌, ◌||◌, nat_lt, nat_le, ◌≢◌, ◌⊎◌, inl, inr}

pub both_true : (a b : Bool) → (a && b) ≡ true → (a ≡ true) × (b ≡ true)
both_true true b h = (refl, h)
both_true false b h = absurd (cc h)

-- if not both are true and the first is, the second is false
pub and_rest : (a b : Bool) → (a && b) ≡ false → a ≡ true → b ≡ false
and_rest true b h k = h
and_rest false b h k = absurd (cc k)

-- if `a && not b` is false, `b` is true or `a` is false
pub and_not_parts : (a b : Bool) → (a && not b) ≡ false → (b ≡ true) ⊎ (a ≡ false)
and_not_parts true true h = inl refl
and_not_parts true false h = absurd (cc h)
and_not_parts false b h = inr refl

-- if one of two is true and the first is false, the second is true
pub or_rest : (a b : Bool) → (a || b) ≡ true → a ≡ false → b ≡ true
or_rest true b h k = absurd (cc k)
or_rest false b h k = h

pub not_no : (b : Bool) → not b ≡ false → b ≡ true
not_no true h = refl
not_no false h = sym h

pub not_yes : (b : Bool) → not b ≡ true → b ≡ false
not_yes true h = sym h
not_yes false h = refl

pub lt_no : (a b : ℕ) → nat_lt a b ≡ false → b ≤ a
lt_no a b h = grind (arith, h)

pub lt_yes : (a b : ℕ) → nat_lt a b ≡ true → a < b
lt_yes a b h = grind (arith, h)

pub le_no : (a b : ℕ) → nat_le a b ≡ false → b < a
le_no a b h = grind (arith, h)

pub eq_no : (a b : ℕ) → (a == b) ≡ false → a ≢ b
eq_no a b h e = grind (arith, h, e)

pub eq_same : (a b : ℕ) → a ≡ b → (a == b) ≡ true
eq_same a b e = grind (arith, e)

pub none_pos : (n : ℕ) → (0 < n → ⊥) → n ≡ 0
none_pos zero h = refl
none_pos (suc n) h = absurd (h (omega arith))

pub some_pos : (n : ℕ) → (n ≡ 0 → ⊥) → 0 < n
some_pos zero h = absurd (h refl)
some_pos (suc n) h = omega arith

pub at_least : (m n : ℕ) → (m < n → ⊥) → n ≤ m
at_least m n h = omega (arith, h)
