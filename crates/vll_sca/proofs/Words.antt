-- The bits of words as a list, and what a write of one bit makes of them.
use Rattle.std.proofs.Common.{◌≡◌, ℕ, ◌*◌, ◌/◌, ◌%◌, ◌^◌, ◌<◌, Bool, true, false, not, eqb, List, length, replicate, get_or, set, sym, ◌∙◌, ap, inl, inr, arith, ext_get_or, length-set, get_or-set_same, get_or-set_other, eq-eqb, ne_eqb, w64}
use Rattle.vll_sca.proofs.Common.{length-replicate, get_or-replicate, length-map-range_with_len, get_or-map-range_with_len, cases_eq, All, bit_and, bit_or, bit_at, bit_not}
use Rattle.std.proofs.lemmas.Nat.{one_shl, pow_pos}
use Rattle.std.proofs.lemmas.Nat.Bits.{bit_at_set_same, bit_at_set_other, bit_at_clear_same, bit_at_clear_other, bit_at-zero, and_pow}
use Rattle.vll_sca.specs.Private.Marks.{bit_of, bits_of}

pub length-bits_of : (words : List ℕ) → length (bits_of words) ≡ 64 * length words
unfolding bits_of
length-bits_of words = length-map-range_with_len (bit_of words) 0 (64 * length words)

pub get_or-bits_of : (words : List ℕ) (k : ℕ) → k < 64 * length words → get_or (bits_of words) k false ≡ bit_of words k
unfolding bits_of
get_or-bits_of words k h = get_or-map-range_with_len (bit_of words) 0 (64 * length words) k k false h (omega arith)

-- words of 0 have no bit set
pub bits_of_zeros : (n : ℕ) → All (λ b. b ≡ false) (bits_of (replicate n 0))
unfolding bits_of
bits_of_zeros n k d h =
    let zeros : List ℕ = replicate n 0 in
    let within : k < 64 * length zeros = rw length-map-range_with_len at h in
    let word : k / 64 < n = omega (arith, length-replicate {A = ℕ} n 0) in
    get_or-map-range_with_len (bit_of zeros) 0 (64 * length zeros) k k d within (omega arith)
    ∙ ap (λ x. eqb (bit_at x (k % 64)) 1) (get_or-replicate n (k / 64) 0 0 word)
    ∙ ap (λ x. eqb x 1) (bit_at-zero (k % 64))

-- the test `word & (1 << k) != 0`
pub bit_set : (word k : ℕ) → k < 64 → not (eqb (bit_and word (1 * 2 ^ k % 2 ^ 64)) 0) ≡ eqb (bit_at word k) 1
bit_set word k h =
    let e : bit_and word (1 * 2 ^ k % 2 ^ 64) ≡ bit_at word k * 2 ^ k = ap (bit_and word) (one_shl k 64 h) ∙ and_pow word k in
    let b : ℕ = bit_at word k in
    let small : b < 2 = omega arith in
    elim (cases_eq b 1) [
      | inl one ↦
          let big : 0 < bit_and word (1 * 2 ^ k % 2 ^ 64) = rw (e, one) (omega (arith, pow_pos k)) in
          ap not (ne_eqb _ 0 (omega arith)) ∙ sym (eq-eqb b 1 one)
      | inr other ↦
          let none : b ≡ 0 = omega arith in
          ap not (eq-eqb _ 0 (rw (e, none) (omega arith))) ∙ sym (ne_eqb b 1 other)
    ]

-- a word in which bit n has become b, and the others are as they were
abbrev SetsBit : (word new n : ℕ) → Bool → Type 0
SetsBit word new n b = (eqb (bit_at new n) 1 ≡ b) × ((i : ℕ) → i < 64 → (i ≡ n → ⊥) → bit_at new i ≡ bit_at word i)

-- a write of one bit of one word is a write of that place
written : (b : Bool) (words : List ℕ) (n word new : ℕ) → n < 64 * length words → word ≡ get_or words (n / 64) 0 → SetsBit word new (n % 64) b
    → bits_of (set words (n / 64) new) ≡ set (bits_of words) n b
written b words n word new within read sets =
    let len : length (set words (n / 64) new) ≡ length words = length-set words (n / 64) new in
    let n_in : n < length (bits_of words) = omega (arith, length-bits_of words) in
    let word_in : n / 64 < length words = omega arith in
    ext_get_or false _ _
    (length-bits_of _ ∙ ap (λ x. 64 * x) len ∙ sym (length-bits_of words) ∙ sym (length-set (bits_of words) n b))
    (λ k h.
    let k_in : k < 64 * length (set words (n / 64) new) = rw length-bits_of at h in
    get_or-bits_of _ k k_in
    ∙ (elim (cases_eq k n) as (λ _. bit_of (set words (n / 64) new) k ≡ get_or (set (bits_of words) n b) k false) [
      | inl same ↦
          rw same
          (ap (λ x. eqb (bit_at x (n % 64)) 1) (get_or-set_same words (n / 64) new 0 word_in)
          ∙ sets.0
          ∙ sym (get_or-set_same (bits_of words) n b false n_in))
      | inr other ↦
          (elim (cases_eq (k / 64) (n / 64)) as (λ _. bit_of (set words (n / 64) new) k ≡ bit_of words k) [
            | inl row ↦
                ap (λ x. eqb (bit_at (get_or (set words (n / 64) new) x 0) (k % 64)) 1) row
                ∙ ap (λ x. eqb (bit_at x (k % 64)) 1) (get_or-set_same words (n / 64) new 0 word_in)
                ∙ ap (λ x. eqb x 1) (sets.1 (k % 64) (omega arith) (omega arith))
                ∙ ap (λ x. eqb (bit_at x (k % 64)) 1) (read ∙ ap (λ x. get_or words x 0) (sym row))
            | inr apart ↦ ap (λ x. eqb (bit_at x (k % 64)) 1) (get_or-set_other words (n / 64) (k / 64) new 0 apart)
          ])
          ∙ sym (get_or-bits_of words k (omega arith))
          ∙ sym (get_or-set_other (bits_of words) n k b false other)
    ]))

pub bits_of-set : (words : List ℕ) (n word : ℕ) → n < 64 * length words → word ≡ get_or words (n / 64) 0
    → bits_of (set words (n / 64) (bit_or word (1 * 2 ^ (n % 64) % 2 ^ 64))) ≡ set (bits_of words) n true
bits_of-set words n word within read =
    let low : n % 64 < 64 = omega arith in
    written true words n word (bit_or word (1 * 2 ^ (n % 64) % 2 ^ 64)) within read
    (eq-eqb _ 1 (bit_at_set_same w64 word (n % 64) low), λ i below other. bit_at_set_other w64 word (n % 64) low i other)

pub bits_of-clear : (words : List ℕ) (n word : ℕ) → n < 64 * length words → word ≡ get_or words (n / 64) 0
    → bits_of (set words (n / 64) (bit_and word (bit_not w64 (1 * 2 ^ (n % 64) % 2 ^ 64)))) ≡ set (bits_of words) n false
bits_of-clear words n word within read =
    let low : n % 64 < 64 = omega arith in
    let none : bit_at (bit_and word (bit_not w64 (1 * 2 ^ (n % 64) % 2 ^ 64))) (n % 64) ≡ 0 = bit_at_clear_same w64 word (n % 64) low in
    written false words n word (bit_and word (bit_not w64 (1 * 2 ^ (n % 64) % 2 ^ 64))) within read
    (ap (λ x. eqb x 1) none, λ i below other. bit_at_clear_other w64 word (n % 64) low i below other)
