-- The characters at the beginning of a text, byte by byte.
use Rattle.std.proofs.Common.{◌≡◌, ℕ, suc, ◌+◌, ◌-◌, ◌<◌, Bool, true, false, List, [], ◌∷◌, ◌++◌, take, drop, length, refl, arith, slice_index, if◌then◌else◌, add-one, take-suc, drop-cons, append_assoc, append-nil, ◌==◌, rules}
use Rattle.std.specs.Fmt.{char_count, is_char_start, take_chars}

pub char_count-nil : char_count [] ≡ 0
unfolding char_count
char_count-nil = refl

pub char_count-cons : (b : ℕ) (text : List ℕ) → char_count (b ∷ text) ≡ (if is_char_start b then 1 else 0) + char_count text
unfolding char_count
char_count-cons b text = refl

pub take_chars-nil : (n : ℕ) → take_chars n [] ≡ []
unfolding take_chars
take_chars-nil n = refl

pub take_chars-cons : (n b : ℕ) (text : List ℕ)
    → take_chars n (b ∷ text) ≡ (if is_char_start b then (if n == 0 then [] else b ∷ take_chars (n - 1) text) else b ∷ take_chars n text)
unfolding take_chars
take_chars-cons n b text = refl

module _ (text : List ℕ) (i : ℕ) (within : i < length text) where
  -- a character is counted where it begins
  pub counted : (starts : Bool) → is_char_start (slice_index text i) ≡ starts
      → char_count (drop i text) ≡ (if starts then 1 else 0) + char_count (drop (i + 1) text)
  counted starts is = rw (add-one, drop-cons text i 0 within, char_count-cons, is)

  -- the byte begins the first character that is cut off
  pub stops : is_char_start (slice_index text i) ≡ true → take i text ++ take_chars 0 (drop i text) ≡ take i text
  stops starts = rw (drop-cons text i 0 within, take_chars-cons, starts) (append-nil _)

  -- it belongs to a character that is kept
  pub keeps : (n m : ℕ) (starts : Bool) → is_char_start (slice_index text i) ≡ starts → n ≡ (if starts then 1 else 0) + m
      → take (i + 1) text ++ take_chars m (drop (i + 1) text) ≡ take i text ++ take_chars n (drop i text)
  keeps n m true is count =
      let some : n ≡ suc m = omega arith in
      let begun : (suc m == 0) ≡ false = search rules in
      let less : suc m - 1 ≡ m = omega arith in
      rw (some, add-one, take-suc text i 0 within, append_assoc, drop-cons text i 0 within, take_chars-cons, is, begun, less)
  keeps n m false is count =
      let left : n ≡ m = omega arith in
      rw (add-one, take-suc text i 0 within, append_assoc, drop-cons text i 0 within, take_chars-cons, is, left)
