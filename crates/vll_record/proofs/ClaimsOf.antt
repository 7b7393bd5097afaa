-- The claims of what was asked for are the one rising list that claims each record as strongly.
use Rattle.std.proofs.Common.{◌≡◌, ◌⊎◌, ⊎_elim, ◌<◌, ◌≤◌, length, suc, arith, sym, subst, ap₂, ℕ, Bool, true, false, ◌==◌, nat_lt, List, [], ◌∷◌, Option, Some, None, refl, ap, ◌∙◌, if◌then◌else◌}
use Rattle.vll_record.proofs.Common.{cases_eq, cases_order, none-some, same_Some, Claim, Mode, Read, Write, stronger, with_claim, claims_of, IsRising, AreClaimsOf, stronger_of, mode_on}
use Rattle.std.proofs.lemmas.Map.Views.{exact_unsigned_eq}
use Rattle.vll_record.proofs.Rising.{claim_of, RisesFrom, RisesFrom-zero, IsRising-from_rises, mode_on_below, mode_on_first, mode_on-other}
use Rattle.vll_record.proofs.WithClaim.{IsRising-with_claim, length-with_claim-le}

-- a record that two positions name is one Write claim
one_record : claims_of (claim_of 0 Write ∷ claim_of 0 Write ∷ []) ≡ claim_of 0 Write ∷ []
one_record = refl

in_order : claims_of (claim_of 4 Read ∷ claim_of 0 Write ∷ claim_of 4 Write ∷ claim_of 2 Read ∷ []) ≡ claim_of 0 Write ∷ claim_of 2 Read ∷ claim_of 4 Write ∷ []
in_order = refl

stronger_twice : (m n : Mode) (o : Option Mode) → stronger_of (stronger m n) o ≡ stronger_of m (stronger_of n o)
stronger_twice Write n None = refl
stronger_twice Write n (Some k) = refl
stronger_twice Read n None = refl
stronger_twice Read n (Some k) = refl

stronger_swap : (m n : Mode) (o : Option Mode) → stronger_of m (stronger_of n o) ≡ stronger_of n (stronger_of m o)
stronger_swap Write Write o = refl
stronger_swap Read Read o = refl
stronger_swap Write Read None = refl
stronger_swap Write Read (Some k) = refl
stronger_swap Read Write None = refl
stronger_swap Read Write (Some k) = refl

same_cases : (p : Bool) (m n : Mode) (o : Option Mode) → (if p then stronger_of (stronger m n) o else o) ≡ (if p then stronger_of m (if p then stronger_of n o else o) else (if p then stronger_of n o else o))
same_cases true m n o = stronger_twice m n o
same_cases false m n o = refl

swap_cases : (p q : Bool) (m n : Mode) (o : Option Mode) → (if q then stronger_of n (if p then stronger_of m o else o) else (if p then stronger_of m o else o)) ≡ (if p then stronger_of m (if q then stronger_of n o else o) else (if q then stronger_of n o else o))
swap_cases true true m n o = stronger_swap n m o
swap_cases true false m n o = refl
swap_cases false q m n o = refl

-- a claim put in its place counts as a claim put in front
with_step : (c d : Claim) (ds : List Claim) (r : ℕ) → mode_on (with_claim c ds) r ≡ mode_on (c ∷ ds) r → (lt eq : Bool) → (c.id == d.id) ≡ eq
    → mode_on (if lt then c ∷ d ∷ ds else (if eq then record d { mode = stronger c.mode d.mode } ∷ ds else d ∷ with_claim c ds)) r ≡ mode_on (c ∷ d ∷ ds) r
with_step c d ds r ih true eq is = refl
with_step c d ds r ih false true is =
    let same : c.id ≡ d.id = exact_unsigned_eq c.id d.id is in
    rw same (same_cases (d.id == r) c.mode d.mode (mode_on ds r))
with_step c d ds r ih false false is =
    rw ih (swap_cases (c.id == r) (d.id == r) c.mode d.mode (mode_on ds r))

pub mode_on-with_claim : (c : Claim) (cs : List Claim) (r : ℕ) → mode_on (with_claim c cs) r ≡ mode_on (c ∷ cs) r
mode_on-with_claim c [] r = refl
mode_on-with_claim c (d ∷ ds) r = with_step c d ds r (mode_on-with_claim c ds r) (nat_lt c.id d.id) (c.id == d.id) refl

-- each record is claimed as strongly as it was asked for
pub mode_on-claims_of : (asked : List Claim) (r : ℕ) → mode_on (claims_of asked) r ≡ mode_on asked r
mode_on-claims_of [] r = refl
mode_on-claims_of (c ∷ cs) r = mode_on-with_claim c (claims_of cs) r ∙ ap (λ o. if c.id == r then stronger_of c.mode o else o) (mode_on-claims_of cs r)

pub IsRising-claims_of : (asked : List Claim) → IsRising (claims_of asked)
IsRising-claims_of [] = IsRising-from_rises 0 [] tt
IsRising-claims_of (c ∷ cs) = IsRising-with_claim c (claims_of cs) (IsRising-claims_of cs)

pub length-claims_of-le : (asked : List Claim) → length (claims_of asked) ≤ length asked
length-claims_of-le [] = omega arith
length-claims_of-le (c ∷ cs) =
    let rest = length-claims_of-le cs in
    let more = length-with_claim-le c (claims_of cs) in
    omega arith

pub AreClaimsOf-claims_of : (asked : List Claim) → AreClaimsOf asked (claims_of asked)
AreClaimsOf-claims_of asked = record { rising = IsRising-claims_of asked; each = mode_on-claims_of asked }

same_tails : (c d : Claim) (cs ds : List Claim) → RisesFrom (suc c.id) cs → RisesFrom (suc d.id) ds → c.id ≡ d.id → ((r : ℕ) → mode_on (c ∷ cs) r ≡ mode_on (d ∷ ds) r) → (r : ℕ) → mode_on cs r ≡ mode_on ds r
same_tails c d cs ds p q e same r =
    ⊎_elim
    (λ (here : c.id ≡ r). mode_on_below (suc c.id) cs r p (omega arith) ∙ sym (mode_on_below (suc d.id) ds r q (omega arith)))
    (λ (other : c.id ≡ r → ⊥).
    let other_too : d.id ≡ r → ⊥ = λ h. other (e ∙ h) in
    sym (mode_on-other c cs r other) ∙ same r ∙ mode_on-other d ds r other_too)
    (cases_eq c.id r)

same_heads : (c d : Claim) (cs ds : List Claim) → RisesFrom (suc c.id) cs → RisesFrom (suc d.id) ds → c.id ≡ d.id → mode_on (c ∷ cs) c.id ≡ mode_on (d ∷ ds) c.id → c ≡ d
same_heads c d cs ds p q e same =
    let right : mode_on (d ∷ ds) c.id ≡ Some d.mode = subst (λ (x : ℕ). mode_on (d ∷ ds) x ≡ Some d.mode) (sym e) (mode_on_first d ds q) in
    let mode : c.mode ≡ d.mode = same_Some c.mode d.mode (sym (mode_on_first c cs p) ∙ same ∙ right) in
    ap (λ (x : ℕ). claim_of x c.mode) e ∙ ap (λ (x : Mode). claim_of d.id x) mode

-- a rising list is known from the mode in which it claims each record
pub same_claims : (m n : ℕ) (cs ds : List Claim) → RisesFrom m cs → RisesFrom n ds → ((r : ℕ) → mode_on cs r ≡ mode_on ds r) → cs ≡ ds
same_claims m n [] [] p q same = refl
same_claims m n [] (d ∷ ds) p q same = absurd (none-some d.mode (same d.id ∙ mode_on_first d ds q.1))
same_claims m n (c ∷ cs) [] p q same = absurd (none-some c.mode (sym (same c.id) ∙ mode_on_first c cs p.1))
same_claims m n (c ∷ cs) (d ∷ ds) p q same =
    ⊎_elim
    (λ (e : c.id ≡ d.id).
    ap₂ (λ (x : Claim) (xs : List Claim). x ∷ xs)
    (same_heads c d cs ds p.1 q.1 e (same c.id))
    (same_claims (suc c.id) (suc d.id) cs ds p.1 q.1 (same_tails c d cs ds p.1 q.1 e same)))
    (λ (o : (c.id < d.id) ⊎ (d.id < c.id)).
    ⊎_elim
    (λ (lt : c.id < d.id).
    let none : mode_on (d ∷ ds) c.id ≡ None = mode_on_below d.id (d ∷ ds) c.id (omega arith, q.1) lt in
    absurd (none-some c.mode (sym none ∙ sym (same c.id) ∙ mode_on_first c cs p.1)))
    (λ (gt : d.id < c.id).
    let none : mode_on (c ∷ cs) d.id ≡ None = mode_on_below c.id (c ∷ cs) d.id (omega arith, p.1) gt in
    absurd (none-some d.mode (sym none ∙ same d.id ∙ mode_on_first d ds q.1)))
    o)
    (cases_order c.id d.id)

-- what was asked for has one list of claims
pub claims_of-unique : (asked cs : List Claim) → AreClaimsOf asked cs → cs ≡ claims_of asked
claims_of-unique asked cs h =
    same_claims 0 0 cs (claims_of asked) (RisesFrom-zero cs h.rising) (RisesFrom-zero (claims_of asked) (IsRising-claims_of asked))
    (λ r. h.each r ∙ sym (mode_on-claims_of asked r))
