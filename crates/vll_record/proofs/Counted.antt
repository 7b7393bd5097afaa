-- The pair word of open claims: what one claim adds to it, what its halves count, and which requests it grants.
use Rattle.std.proofs.Common.{◌≡◌, ℕ, zero, suc, ◌+◌, ◌*◌, ◌/◌, ◌%◌, ◌^◌, ◌<◌, ◌≤◌, Bool, true, false, ◌==◌, nat_lt, ◌||◌, ◌&&◌, not, cond, if◌then◌else◌, List, [], ◌∷◌, ◌++◌, length, count_by, refl, sym, ◌∙◌, arith}
use Rattle.vll_record.proofs.Common.{lt-ltb, le-ltb, ne_eqb, sum_by-append, count_by-le-length, Claim, Mode, Read, Write, is_write, conflict}
use Rattle.vll_record.proofs.Rising.{claim_of}
use Rattle.vll_record.specs.Headline.Counter.{claims_on, pair_word_of}
use Rattle.vll_record.specs.Counter.{delta_of, is_granted}

-- two reads, a write and a read of record 0, beside a write of record 1
one_write_three_reads : pair_word_of (claims_on 0 (claim_of 0 Read ∷ claim_of 0 Read ∷ claim_of 1 Write ∷ claim_of 0 Write ∷ claim_of 0 Read ∷ [])) ≡ 4294967299
one_write_three_reads = refl

count_by-append : (p : Claim → Bool) (xs ys : List Claim) → count_by p (xs ++ ys) ≡ count_by p xs + count_by p ys
count_by-append p xs ys = sum_by-append (λ (x : Claim). cond (p x) 1 0) xs ys

pub pair_word_of-append : (xs ys : List Claim) → pair_word_of (xs ++ ys) ≡ pair_word_of xs + pair_word_of ys
pair_word_of-append xs ys = omega (arith, count_by-append is_write xs ys, count_by-append (λ c. not (is_write c)) xs ys)

one_claim : (hit : Bool) (i : ℕ) (m : Mode) → pair_word_of (if hit then claim_of i m ∷ [] else []) ≡ (if hit then delta_of m else 0)
one_claim true i Read = refl
one_claim true i Write = refl
one_claim false i m = refl

pub pair_word_of-below : (cs : List Claim) → length cs < 2 ^ 32 → pair_word_of cs < 2 ^ 64
pair_word_of-below cs few =
    let writes = count_by-le-length is_write cs in
    let reads = count_by-le-length (λ c. not (is_write c)) cs in
    omega arith

read_step : (hit : Bool) (i : ℕ) (m : Mode) (on : List Claim) (rest : Bool) → (count_by is_write on == 0) ≡ not rest
    → (count_by is_write (if hit then claim_of i m ∷ on else on) == 0) ≡ not (((hit && (is_write (claim_of i m) || false)) || false) || rest)
read_step true i Write on rest h =
    let more = count_by-append is_write (claim_of i Write ∷ []) on in
    ne_eqb (count_by is_write (claim_of i Write ∷ on)) 0 (λ e. omega arith)
read_step true i Read on rest h = h
read_step false i m on rest h = h

-- no claim conflicts with a read of the record where none on it is a Write
pub no_conflict_with_read : (r : ℕ) (cs : List Claim) → (count_by is_write (claims_on r cs) == 0) ≡ not (conflict cs (claim_of r Read ∷ []))
no_conflict_with_read r [] = refl
no_conflict_with_read r (c ∷ cs) =
    read_step (c.id == r) c.id c.mode (claims_on r cs) (conflict cs (claim_of r Read ∷ [])) (no_conflict_with_read r cs)

write_step : (hit : Bool) (i : ℕ) (m : Mode) (on : List Claim) (rest : Bool) → (pair_word_of on == 0) ≡ not rest
    → (pair_word_of (if hit then claim_of i m ∷ on else on) == 0) ≡ not (((hit && (is_write (claim_of i m) || true)) || false) || rest)
write_step true i Write on rest h =
    let more = pair_word_of-append (claim_of i Write ∷ []) on in
    ne_eqb (pair_word_of (claim_of i Write ∷ on)) 0 (λ e. omega arith)
write_step true i Read on rest h =
    let more = pair_word_of-append (claim_of i Read ∷ []) on in
    ne_eqb (pair_word_of (claim_of i Read ∷ on)) 0 (λ e. omega arith)
write_step false i m on rest h = h

-- no claim conflicts with a write of the record where there is none on it
pub no_conflict_with_write : (r : ℕ) (cs : List Claim) → (pair_word_of (claims_on r cs) == 0) ≡ not (conflict cs (claim_of r Write ∷ []))
no_conflict_with_write r [] = refl
no_conflict_with_write r (c ∷ cs) =
    write_step (c.id == r) c.id c.mode (claims_on r cs) (conflict cs (claim_of r Write ∷ [])) (no_conflict_with_write r cs)

no_carry : (cx cs : ℕ) → cs < 2 ^ 32 → nat_lt (cx * 2 ^ 32 + cs) (2 ^ 32) ≡ (cx == 0)
no_carry zero cs few = lt-ltb (zero * 2 ^ 32 + cs) (2 ^ 32) (omega arith)
no_carry (suc cx) cs few =
    le-ltb (suc cx * 2 ^ 32 + cs) (2 ^ 32) (omega arith) ∙ sym (ne_eqb (suc cx) 0 (λ e. omega arith))

-- the pair word of a record grants a request exactly where no claim conflicts with it
pub is_granted-no_conflict : (m : Mode) (r : ℕ) (cs : List Claim) → length (claims_on r cs) < 2 ^ 32
    → is_granted m (pair_word_of (claims_on r cs)) ≡ not (conflict cs (claim_of r m ∷ []))
is_granted-no_conflict Read r cs few =
    let reads = count_by-le-length (λ c. not (is_write c)) (claims_on r cs) in
    no_carry (count_by is_write (claims_on r cs)) (count_by (λ c. not (is_write c)) (claims_on r cs)) (omega arith) ∙ no_conflict_with_read r cs
is_granted-no_conflict Write r cs few = no_conflict_with_write r cs
