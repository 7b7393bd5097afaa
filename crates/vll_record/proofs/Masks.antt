-- The modes of claims in one word: what is read at a place, and what a write and an insert leave.
use Rattle.std.proofs.Common.{◌≡◌, ◌≢◌, ℕ, zero, suc, ◌+◌, ◌-◌, ◌*◌, ◌/◌, ◌%◌, ◌^◌, ◌<◌, ◌≤◌, Bool, true, false, if◌then◌else◌, ◌==◌, List, [], ◌∷◌, ◌++◌, length, map, take, drop, set, insert, get_or, refl, subst, sym, ap, ap₂, ◌∙◌, arith, Some, slice_get, ⊎_elim, bit_and, bit_or, w32}
use Rattle.vll_record.proofs.Common.{cases_eq, cond-false, ne_eqb, map-set, get_or-set_same, get_or-set_other, take-append-drop, length-take-le, length-map, set-get_or, length-insert, or_shifted, and_mask, shr_high, mod_low, pow_pos, pow_below, Claim, Mode, Read, Write, slice_get_within, get_or_from_slice_get, is_write, stronger, claims_with, mask_of, ids_of}
use Rattle.std.specs.Int.{bit_at}
use Rattle.std.proofs.Math.Nat.{two-pow-succ, mul-add, mod-eq_of_lt, pow-le-pow_right, le-mul_of_pos_right}
use Rattle.std.proofs.lemmas.Nat.Bits.{bit_at-zero, bit_at_lowest, bit_at-suc, same_from_bits, bit_at_set_same, bit_at_set_other, shr_and_one}

abbrev pub bit : Bool → ℕ
bit b = if b then 1 else 0

bit-small : (b : Bool) → bit b < 2
bit-small true = omega arith
bit-small false = omega arith

-- a bit and the number above it
low : (b : Bool) (n : ℕ) → (bit b + 2 * n) % 2 ≡ bit b
low true n = omega arith
low false n = omega arith

high : (b : Bool) (n : ℕ) → (bit b + 2 * n) / 2 ≡ n
high true n = omega arith
high false n = omega arith

abbrev mode_of : ℕ → Mode
mode_of n = if n == 1 then Write else Read

mode_of-is_write : (c : Claim) → mode_of (bit (is_write c)) ≡ c.mode
mode_of-is_write c = elim c.mode as (λ m. mode_of (bit (is_write (record { id = c.id; mode = m }))) ≡ m) [ Read ↦ refl | Write ↦ refl ]

pub claims_with-mask_of : (cs : List Claim) → claims_with (ids_of cs) (mask_of cs) ≡ cs
claims_with-mask_of [] = refl
claims_with-mask_of (c ∷ cs) =
    let mode : mode_of (mask_of (c ∷ cs) % 2) ≡ c.mode = ap mode_of (low (is_write c) (mask_of cs)) ∙ mode_of-is_write c in
    let rest : claims_with (ids_of cs) (mask_of (c ∷ cs) / 2) ≡ cs = ap (claims_with (ids_of cs)) (high (is_write c) (mask_of cs)) ∙ claims_with-mask_of cs in
    ap₂ (λ (m : Mode) (ds : List Claim). let d : Claim = record { id = c.id; mode = m } in d ∷ ds) mode rest

-- the claim at a place has the mode at its bit
claim_at : (ids : List ℕ) (writes i : ℕ) → i < length ids → slice_get (claims_with ids writes) i ≡ Some (record { id = get_or ids i 0; mode = mode_of (bit_at writes i) })
claim_at [] writes i lt = absurd (omega arith)
claim_at (r ∷ rs) writes zero lt = rw bit_at_lowest refl
claim_at (r ∷ rs) writes (suc i) lt = rw bit_at-suc (claim_at rs (writes / 2) i (omega arith))

pub write_at : (ids : List ℕ) (writes i : ℕ) → bit_and (writes / 2 ^ i) 1 ≡ 1 → i < length ids → slice_get (claims_with ids writes) i ≡ Some (record { id = get_or ids i 0; mode = Write })
write_at ids writes i is lt =
    claim_at ids writes i lt ∙ ap (λ (n : ℕ). let c : Claim = record { id = get_or ids i 0; mode = mode_of n } in Some c) (sym (shr_and_one writes i) ∙ is)

pub read_at : (ids : List ℕ) (writes i : ℕ) → bit_and (writes / 2 ^ i) 1 ≢ 1 → i < length ids → slice_get (claims_with ids writes) i ≡ Some (record { id = get_or ids i 0; mode = Read })
read_at ids writes i is lt =
    let bit_is : bit_at writes i ≢ 1 = λ e. is (shr_and_one writes i ∙ e) in
    let mode : mode_of (bit_at writes i) ≡ Read = cond-false (bit_at writes i == 1) _ _ (ne_eqb (bit_at writes i) 1 bit_is) in
    claim_at ids writes i lt ∙ ap (λ (m : Mode). let c : Claim = record { id = get_or ids i 0; mode = m } in Some c) mode

-- the bits of a word are the modes of its claims
bit_at-mask_of : (cs : List Claim) (i : ℕ) → bit_at (mask_of cs) i ≡ bit (get_or (map is_write cs) i false)
bit_at-mask_of [] i = bit_at-zero i
bit_at-mask_of (c ∷ cs) zero = bit_at_lowest (mask_of (c ∷ cs)) ∙ low (is_write c) (mask_of cs)
bit_at-mask_of (c ∷ cs) (suc i) = bit_at-suc (mask_of (c ∷ cs)) i ∙ ap (λ (n : ℕ). bit_at n i) (high (is_write c) (mask_of cs)) ∙ bit_at-mask_of cs i

bits_set : (cs : List Claim) (i k : ℕ) (c : Claim) → bit_at (mask_of (set cs i c)) k ≡ bit (get_or (set (map is_write cs) i (is_write c)) k false)
bits_set cs i k c = bit_at-mask_of (set cs i c) k ∙ ap (λ (bs : List Bool). bit (get_or bs k false)) (map-set is_write cs i c)

-- a claim becomes Write
pub mask_of-set : (cs : List Claim) (i r : ℕ) → i < length cs → i < 32
    → bit_or (mask_of cs) (1 * 2 ^ i % 2 ^ 32) ≡ mask_of (set cs i (record { id = r; mode = Write }))
mask_of-set cs i r lt word =
    let c : Claim = record { id = r; mode = Write } in
    let within : i < length (map is_write cs) = rw length-map lt in
    let at : bit_at (bit_or (mask_of cs) (1 * 2 ^ i % 2 ^ 32)) i ≡ bit_at (mask_of (set cs i c)) i =
    bit_at_set_same w32 (mask_of cs) i word ∙ sym (bits_set cs i i c ∙ ap bit (get_or-set_same (map is_write cs) i true false within)) in
    same_from_bits (bit_or (mask_of cs) (1 * 2 ^ i % 2 ^ 32)) (mask_of (set cs i c))
    (λ (k : ℕ). ⊎_elim
    (λ (here : k ≡ i). subst (λ (x : ℕ). bit_at (bit_or (mask_of cs) (1 * 2 ^ i % 2 ^ 32)) x ≡ bit_at (mask_of (set cs i c)) x) (sym here) at)
    (λ (other : k ≡ i → ⊥).
    bit_at_set_other w32 (mask_of cs) i word k other
    ∙ bit_at-mask_of cs k
    ∙ sym (bits_set cs i k c ∙ ap bit (get_or-set_other (map is_write cs) i k true false other)))
    (cases_eq k i))

mask_of-append : (xs ys : List Claim) → mask_of (xs ++ ys) ≡ mask_of ys * 2 ^ length xs + mask_of xs
mask_of-append [] ys = omega arith
mask_of-append (x ∷ xs) ys =
    let rest = mask_of-append xs ys in
    let twice : mask_of ys * 2 ^ suc (length xs) ≡ mask_of ys * 2 ^ length xs + mask_of ys * 2 ^ length xs =
    ap (λ (n : ℕ). mask_of ys * n) (two-pow-succ (length xs)) ∙ mul-add (mask_of ys) (2 ^ length xs) (2 ^ length xs) in
    omega arith

mask_of-small : (cs : List Claim) → mask_of cs < 2 ^ length cs
mask_of-small [] = omega arith
mask_of-small (c ∷ cs) =
    let rest = mask_of-small cs in
    let twice = two-pow-succ (length cs) in
    let small = bit-small (is_write c) in
    omega arith

-- the word in two parts, with a bit between them
parted : (hi lo b i : ℕ) → b < 2 → lo < 2 ^ i → i < 32 → (hi * 2 + b) * 2 ^ i + lo < 2 ^ 32
    → bit_or (bit_or ((hi * 2 ^ i + lo) / 2 ^ i * 2 % 2 ^ 32) b * 2 ^ i % 2 ^ 32) (bit_and (hi * 2 ^ i + lo) (1 * 2 ^ i % 2 ^ 32 - 1)) ≡ (hi * 2 + b) * 2 ^ i + lo
parted hi lo b i small below word fits =
    let one : hi * 2 + b ≤ (hi * 2 + b) * 2 ^ i = le-mul_of_pos_right (hi * 2 + b) (pow_pos i) in
    let above : (hi * 2 ^ i + lo) / 2 ^ i * 2 % 2 ^ 32 ≡ hi * 2 =
    ap (λ (n : ℕ). n * 2 % 2 ^ 32) (shr_high hi i lo below) ∙ mod-eq_of_lt (omega arith) in
    let with_bit : bit_or ((hi * 2 ^ i + lo) / 2 ^ i * 2 % 2 ^ 32) b * 2 ^ i % 2 ^ 32 ≡ (hi * 2 + b) * 2 ^ i =
    ap (λ (n : ℕ). bit_or n b * 2 ^ i % 2 ^ 32) above ∙ ap (λ (n : ℕ). n * 2 ^ i % 2 ^ 32) (or_shifted hi 1 b small) ∙ mod-eq_of_lt (omega arith) in
    let power : 1 * 2 ^ i % 2 ^ 32 ≡ 2 ^ i =
    ap (λ (n : ℕ). n % 2 ^ 32) (omega arith) ∙ mod-eq_of_lt (pow_below i 32 word) in
    let kept_low : bit_and (hi * 2 ^ i + lo) (1 * 2 ^ i % 2 ^ 32 - 1) ≡ lo =
    ap (λ (n : ℕ). bit_and (hi * 2 ^ i + lo) (n - 1)) power ∙ and_mask (hi * 2 ^ i + lo) i ∙ mod_low hi i lo below in
    ap₂ bit_or with_bit kept_low ∙ or_shifted (hi * 2 + b) i lo below

-- a claim comes in
pub mask_of-insert : (cs : List Claim) (i : ℕ) (c : Claim) → i ≤ length cs → length cs < 32
    → bit_or (bit_or (mask_of cs / 2 ^ i * 2 % 2 ^ 32) (bit (is_write c)) * 2 ^ i % 2 ^ 32) (bit_and (mask_of cs) (1 * 2 ^ i % 2 ^ 32 - 1)) ≡ mask_of (insert cs i c)
mask_of-insert cs i c le lt =
    let hi = mask_of (drop i cs) in
    let lo = mask_of (take i cs) in
    let long : length (take i cs) ≡ i = length-take-le i cs le in
    let whole : mask_of cs ≡ hi * 2 ^ i + lo =
    ap mask_of (sym (take-append-drop i cs)) ∙ mask_of-append (take i cs) (drop i cs) ∙ ap (λ (n : ℕ). hi * 2 ^ n + lo) long in
    let come : mask_of (insert cs i c) ≡ (hi * 2 + bit (is_write c)) * 2 ^ i + lo =
    mask_of-append (take i cs) (c ∷ drop i cs) ∙ ap₂ (λ (m n : ℕ). m * 2 ^ n + lo) (omega arith) long in
    let below : lo < 2 ^ i = subst (λ (n : ℕ). lo < 2 ^ n) long (mask_of-small (take i cs)) in
    let longer : length (insert cs i c) ≤ 32 = omega (arith, length-insert cs i c le) in
    let word : 2 ^ length (insert cs i c) ≤ 2 ^ 32 = pow-le-pow_right (omega arith) longer in
    let fits : (hi * 2 + bit (is_write c)) * 2 ^ i + lo < 2 ^ 32 = omega (arith, come, mask_of-small (insert cs i c), word) in
    rw whole (parted hi lo (bit (is_write c)) i (bit-small (is_write c)) below (omega arith) fits ∙ sym come)

-- the claim at a place, where a mode is Write, and where it is Read
pub mask_of-stronger_write : (cs : List Claim) (i : ℕ) (held : Claim) (m : Mode) → i < 32 → slice_get cs i ≡ Some held → m ≡ Write
    → bit_or (mask_of cs) (1 * 2 ^ i % 2 ^ 32) ≡ mask_of (set cs i (record held { mode = stronger m held.mode }))
mask_of-stronger_write cs i held m word at is =
    rw is (mask_of-set cs i held.id (slice_get_within cs i held at) word)

pub mask_of-stronger_read : (cs : List Claim) (i : ℕ) (held : Claim) (m : Mode) → slice_get cs i ≡ Some held → m ≡ Read
    → mask_of cs ≡ mask_of (set cs i (record held { mode = stronger m held.mode }))
mask_of-stronger_read cs i held m at is =
    rw is (ap mask_of (sym (ap (set cs i) (sym (get_or_from_slice_get cs i held held at)) ∙ set-get_or cs i held)))
