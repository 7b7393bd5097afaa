-- Rising claims: rising by recursion, and which claim stands at which place.
use Rattle.std.proofs.Common.{◌≡◌, ℕ, zero, suc, ◌+◌, ◌<◌, ◌≤◌, List, [], ◌∷◌, Some, None, refl, ap, ◌∙◌, subst, slice_get, arith, ⊎_elim}
use Rattle.vll_record.proofs.Common.{eq-eqb, ne_eqb, cond-true, cond-false, same_Some, none-some, Claim, Mode, IsRising, stronger_of, mode_on}

-- rising, and no record number below n
abbrev pub RisesFrom : ℕ → List Claim → Type 0
RisesFrom n [] = Unit {0}
RisesFrom n (c ∷ cs) = (n ≤ c.id) × RisesFrom (suc c.id) cs

pub IsRising-tail : (c : Claim) (cs : List Claim) → IsRising (c ∷ cs) → IsRising cs
IsRising-tail c cs h k l =
    let step : suc k + 1 ≡ suc (k + 1) = omega arith in
    let more = h (suc k) (rw step (omega arith)) in
    rw step at more

pub RisesFrom-from_rising : (c : Claim) (cs : List Claim) → IsRising (c ∷ cs) → RisesFrom c.id (c ∷ cs)
RisesFrom-from_rising c [] h = (omega arith, tt)
RisesFrom-from_rising c (d ∷ ds) h =
    let below : c.id < d.id = h 0 (omega arith) in
    let rest : RisesFrom d.id (d ∷ ds) = RisesFrom-from_rising d ds (IsRising-tail c (d ∷ ds) h) in
    (omega arith, (omega arith, rest.1))

pub RisesFrom-zero : (cs : List Claim) → IsRising cs → RisesFrom 0 cs
RisesFrom-zero [] h = tt
RisesFrom-zero (c ∷ cs) h = (omega arith, (RisesFrom-from_rising c cs h).1)

pub IsRising-from_rises : (n : ℕ) (cs : List Claim) → RisesFrom n cs → IsRising cs
IsRising-from_rises n (c ∷ d ∷ ds) h zero l = h.1.0
IsRising-from_rises n (c ∷ d ∷ ds) h (suc k) l =
    let step : suc k + 1 ≡ suc (k + 1) = omega arith in
    rw step (IsRising-from_rises (suc c.id) (d ∷ ds) h.1 k (omega arith))
IsRising-from_rises n other h k l = absurd (omega arith)

pub mode_on-same : (c : Claim) (cs : List Claim) (r : ℕ) → c.id ≡ r → mode_on (c ∷ cs) r ≡ stronger_of c.mode (mode_on cs r)
mode_on-same c cs r e = cond-true _ _ _ (eq-eqb c.id r e)

pub mode_on-other : (c : Claim) (cs : List Claim) (r : ℕ) → (c.id ≡ r → ⊥) → mode_on (c ∷ cs) r ≡ mode_on cs r
mode_on-other c cs r e = cond-false _ _ _ (ne_eqb c.id r e)

-- no claim is for a record below the first
pub mode_on_below : (n : ℕ) (cs : List Claim) (r : ℕ) → RisesFrom n cs → r < n → mode_on cs r ≡ None
mode_on_below n [] r h lt = refl
mode_on_below n (c ∷ cs) r h lt =
    let low : n ≤ c.id = h.0 in
    mode_on-other c cs r (λ e. omega arith) ∙ mode_on_below (suc c.id) cs r h.1 (omega arith)

-- the first claim gives its record its mode
pub mode_on_first : (c : Claim) (cs : List Claim) → RisesFrom (suc c.id) cs → mode_on (c ∷ cs) c.id ≡ Some c.mode
mode_on_first c cs h =
    mode_on-same c cs c.id refl ∙ ap (stronger_of c.mode) (mode_on_below (suc c.id) cs c.id h (omega arith))

pub RisesFrom-at : (n : ℕ) (cs : List Claim) (i : ℕ) (c : Claim) → RisesFrom n cs → slice_get cs i ≡ Some c → n ≤ c.id
RisesFrom-at n [] i c h e = absurd (none-some c e)
RisesFrom-at n (d ∷ ds) zero c h e = subst (λ (x : Claim). n ≤ x.id) (same_Some d c e) h.0
RisesFrom-at n (d ∷ ds) (suc i) c h e =
    let low : n ≤ d.id = h.0 in
    let more = RisesFrom-at (suc d.id) ds i c h.1 e in
    omega arith

at_place : (n : ℕ) (cs : List Claim) (i : ℕ) (c : Claim) → RisesFrom n cs → slice_get cs i ≡ Some c → mode_on cs c.id ≡ Some c.mode
at_place n [] i c h e = absurd (none-some c e)
at_place n (d ∷ ds) zero c h e =
    subst (λ (x : Claim). mode_on (d ∷ ds) x.id ≡ Some x.mode) (same_Some d c e) (mode_on_first d ds h.1)
at_place n (d ∷ ds) (suc i) c h e =
    let low = RisesFrom-at (suc d.id) ds i c h.1 e in
    mode_on-other d ds c.id (λ q. omega arith) ∙ at_place (suc d.id) ds i c h.1 e

one_place : (n : ℕ) (cs : List Claim) (i j : ℕ) (c d : Claim) → RisesFrom n cs → slice_get cs i ≡ Some c → slice_get cs j ≡ Some d → c.id ≡ d.id → i ≡ j
one_place n [] i j c d h p q e = absurd (none-some c p)
one_place n (b ∷ bs) zero zero c d h p q e = refl
one_place n (b ∷ bs) zero (suc j) c d h p q e =
    let first : b.id ≡ c.id = ap (λ (x : Claim). x.id) (same_Some b c p) in
    let low = RisesFrom-at (suc b.id) bs j d h.1 q in
    absurd (omega arith)
one_place n (b ∷ bs) (suc i) zero c d h p q e =
    let first : b.id ≡ d.id = ap (λ (x : Claim). x.id) (same_Some b d q) in
    let low = RisesFrom-at (suc b.id) bs i c h.1 p in
    absurd (omega arith)
one_place n (b ∷ bs) (suc i) (suc j) c d h p q e = ap suc (one_place (suc b.id) bs i j c d h.1 p q e)

-- a record has one place in a rising list
pub same_place : (cs : List Claim) (i j : ℕ) (c d : Claim) → IsRising cs → slice_get cs i ≡ Some c → slice_get cs j ≡ Some d → c.id ≡ d.id → i ≡ j
same_place cs i j c d h p q e = one_place 0 cs i j c d (RisesFrom-zero cs h) p q e

abbrev pub claim_of : ℕ → Mode → Claim
claim_of r m = record { id = r; mode = m }
