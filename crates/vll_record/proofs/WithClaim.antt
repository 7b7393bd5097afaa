-- A claim put in its place among rising claims: what it keeps, and where it goes.
use Rattle.std.proofs.Common.{◌≡◌, ◌≢◌, ℕ, zero, suc, ◌<◌, ◌≤◌, ◌⊎◌, List, [], ◌∷◌, length, Some, None, Option, eqb, false, IsSome, refl, ap, ◌∙◌, subst, sym, inl, inr, ◌==◌, nat_lt, nat_le, not, Bool, slice_get, set, insert, unwrap_or, arith, ⊎_elim}
use Rattle.vll_record.proofs.Common.{false≢true, ltb-true, ltb-false, leb-true, leb-false, eqb-false, lt-ltb, le-ltb, eq-eqb, ne_eqb, cond_both, cond-true, cond-false, cases_lt, position, position_or_len, fails_before_first, passes_at_first, prefix_len-le-length, none-some, same_Some, get_or_from_slice_get, slice_get_within, Claim, stronger, with_claim, IsRising, mode_on}
use Rattle.vll_record.specs.Private.Place.{place_in}
use Rattle.vll_record.proofs.Rising.{RisesFrom, RisesFrom-zero, IsRising-from_rises, mode_on_below, mode_on-other}

pub RisesFrom-with_claim : (n : ℕ) (c : Claim) (cs : List Claim) → n ≤ c.id → RisesFrom n cs → RisesFrom n (with_claim c cs)
RisesFrom-with_claim n c [] le h = (le, tt)
RisesFrom-with_claim n c (d ∷ ds) le h =
    cond_both (nat_lt c.id d.id) _ _ (RisesFrom n)
    (λ lt. (le, (ltb-true c.id d.id lt, h.1)))
    (λ ge. cond_both (c.id == d.id) _ _ (RisesFrom n)
    (λ eq. (h.0, h.1))
    (λ ne.
    let not_below = ltb-false c.id d.id ge in
    let apart = eqb-false c.id d.id ne in
    (h.0, RisesFrom-with_claim (suc d.id) c ds (omega arith) h.1)))

pub IsRising-with_claim : (c : Claim) (cs : List Claim) → IsRising cs → IsRising (with_claim c cs)
IsRising-with_claim c cs h =
    IsRising-from_rises 0 (with_claim c cs) (RisesFrom-with_claim 0 c cs (omega arith) (RisesFrom-zero cs h))

pub length-with_claim-le : (c : Claim) (cs : List Claim) → length (with_claim c cs) ≤ suc (length cs)
length-with_claim-le c [] = omega arith
length-with_claim-le c (d ∷ ds) =
    cond_both (nat_lt c.id d.id) _ _ (λ (l : List Claim). length l ≤ suc (suc (length ds)))
    (λ _. omega arith)
    (λ _. cond_both (c.id == d.id) _ _ (λ (l : List Claim). length l ≤ suc (suc (length ds)))
    (λ _. omega arith)
    (λ _. let rest = length-with_claim-le c ds in omega arith))

-- the three cases of the definition
pub with_claim-before : (c d : Claim) (ds : List Claim) → c.id < d.id → with_claim c (d ∷ ds) ≡ c ∷ d ∷ ds
with_claim-before c d ds lt = cond-true (nat_lt c.id d.id) _ _ (lt-ltb c.id d.id lt)

pub with_claim-same : (c d : Claim) (ds : List Claim) → c.id ≡ d.id → with_claim c (d ∷ ds) ≡ record d { mode = stronger c.mode d.mode } ∷ ds
with_claim-same c d ds e =
    cond-false (nat_lt c.id d.id) _ _ (le-ltb c.id d.id (omega arith)) ∙ cond-true (c.id == d.id) _ _ (eq-eqb c.id d.id e)

pub with_claim-after : (c d : Claim) (ds : List Claim) → d.id < c.id → with_claim c (d ∷ ds) ≡ d ∷ with_claim c ds
with_claim-after c d ds gt =
    cond-false (nat_lt c.id d.id) _ _ (le-ltb c.id d.id (omega arith)) ∙ cond-false (c.id == d.id) _ _ (ne_eqb c.id d.id (λ e. omega arith))

-- the claims before the place are for lower records, and the claim at the place, if there is one, is not
pub record IsPlaceOf (r : ℕ) (cs : List Claim) (at : ℕ) : Type 0 where
  pub within : at ≤ length cs
  pub before : (k : ℕ) (c : Claim) → k < at → slice_get cs k ≡ Some c → c.id < r
  pub from : (c : Claim) → slice_get cs at ≡ Some c → r ≤ c.id

pub IsPlaceOf-place_in : (r : ℕ) (cs : List Claim) → IsPlaceOf r cs (place_in cs r)
IsPlaceOf-place_in r cs =
    let test : Claim → Bool = λ c. nat_le r c.id in
    record {
      within = prefix_len-le-length (λ (c : Claim). not (nat_le r c.id)) cs;
      before = λ k c lt e. leb-false r c.id (ap test (sym (get_or_from_slice_get cs k c c e)) ∙ fails_before_first test cs k c lt);
      from = λ c e. leb-true r c.id (ap test (sym (get_or_from_slice_get cs (place_in cs r) c c e)) ∙ passes_at_first test cs c (slice_get_within cs (place_in cs r) c e));
    }

pub IsPlaceOf-is : (r : ℕ) (cs : List Claim) (at : ℕ) → at ≡ place_in cs r → IsPlaceOf r cs at
IsPlaceOf-is r cs at e = subst (IsPlaceOf r cs) (sym e) (IsPlaceOf-place_in r cs)

-- the first that passes, or the end
pub unwrap_or-position : (test : Claim → Bool) (cs : List Claim) → unwrap_or (position test cs) (length cs) ≡ position_or_len test cs
unwrap_or-position test cs =
    let le = prefix_len-le-length (λ (c : Claim). not (test c)) cs in
    ⊎_elim
    (λ (lt : position_or_len test cs < length cs). ap (λ (o : Option ℕ). unwrap_or o (length cs)) (cond-true (nat_lt (position_or_len test cs) (length cs)) _ _ (lt-ltb (position_or_len test cs) (length cs) lt)))
    (λ (ge : length cs ≤ position_or_len test cs). ap (λ (o : Option ℕ). unwrap_or o (length cs)) (cond-false (nat_lt (position_or_len test cs) (length cs)) _ _ (le-ltb (position_or_len test cs) (length cs) ge)) ∙ omega arith)
    (cases_lt (position_or_len test cs) (length cs))

IsPlaceOf-tail : (r : ℕ) (d : Claim) (ds : List Claim) (at : ℕ) → IsPlaceOf r (d ∷ ds) (suc at) → IsPlaceOf r ds at
IsPlaceOf-tail r d ds at p = record {
  within = (let le = p.within in omega arith);
  before = λ k c lt e. p.before (suc k) c (omega arith) e;
  from = λ c e. p.from c e;
}

-- a record that has no claim gets one at its place
pub with_claim-insert : (c : Claim) (cs : List Claim) (at : ℕ) → IsPlaceOf c.id cs at → ((d : Claim) → slice_get cs at ≡ Some d → d.id ≢ c.id) → with_claim c cs ≡ insert cs at c
with_claim-insert c [] zero p apart = refl
with_claim-insert c [] (suc at) p apart = absurd (omega (arith, p.within))
with_claim-insert c (d ∷ ds) zero p apart =
    let le = p.from d refl in
    let ne = apart d refl in
    with_claim-before c d ds (omega arith)
with_claim-insert c (d ∷ ds) (suc at) p apart =
    let lt = p.before zero d (omega arith) refl in
    with_claim-after c d ds lt ∙ ap (λ (l : List Claim). d ∷ l) (with_claim-insert c ds at (IsPlaceOf-tail c.id d ds at p) apart)

-- a record that has a claim keeps it there, Write where either is
pub with_claim-set : (c d : Claim) (cs : List Claim) (at : ℕ) → IsPlaceOf c.id cs at → slice_get cs at ≡ Some d → d.id ≡ c.id → with_claim c cs ≡ set cs at (record d { mode = stronger c.mode d.mode })
with_claim-set c d [] at p is e = absurd (none-some d is)
with_claim-set c d (b ∷ bs) zero p is e =
    subst (λ (x : Claim). x.id ≡ c.id → with_claim c (b ∷ bs) ≡ record x { mode = stronger c.mode x.mode } ∷ bs) (same_Some b d is) (λ q. with_claim-same c b bs (sym q)) e
with_claim-set c d (b ∷ bs) (suc at) p is e =
    let lt = p.before zero b (omega arith) refl in
    with_claim-after c b bs lt ∙ ap (λ (l : List Claim). b ∷ l) (with_claim-set c d bs at (IsPlaceOf-tail c.id b bs at p) is e)

absent_from : (n r : ℕ) (cs : List Claim) (at : ℕ) → RisesFrom n cs → IsPlaceOf r cs at → ((d : Claim) → slice_get cs at ≡ Some d → d.id ≢ r) → mode_on cs r ≡ None
absent_from n r [] at h p apart = refl
absent_from n r (d ∷ ds) zero h p apart =
    let le = p.from d refl in
    let ne = apart d refl in
    mode_on_below d.id (d ∷ ds) r (omega arith, h.1) (omega arith)
absent_from n r (d ∷ ds) (suc at) h p apart =
    let lt = p.before zero d (omega arith) refl in
    mode_on-other d ds r (λ e. omega arith) ∙ absent_from (suc d.id) r ds at h.1 (IsPlaceOf-tail r d ds at p) apart

-- a record that is not at its place is not claimed
pub mode_on-absent : (r : ℕ) (cs : List Claim) (at : ℕ) → IsRising cs → IsPlaceOf r cs at → ((d : Claim) → slice_get cs at ≡ Some d → d.id ≢ r) → mode_on cs r ≡ None
mode_on-absent r cs at h p apart = absent_from 0 r cs at (RisesFrom-zero cs h) p apart

-- a place that holds another record's claim, or none, does not hold the record's
pub apart_from_other : (r : ℕ) (o : Option Claim) (c : Claim) → o ≡ Some c → eqb c.id r ≡ false → (d : Claim) → o ≡ Some d → d.id ≢ r
apart_from_other r o c e ne d is same =
    let one : c.id ≡ d.id = ap (λ (x : Claim). x.id) (same_Some c d (sym e ∙ is)) in
    eqb-false c.id r ne (one ∙ same)

pub apart_from_none : (r : ℕ) (o : Option Claim) → o ≡ None → (d : Claim) → o ≡ Some d → d.id ≢ r
apart_from_none r o e d is same = none-some d (sym e ∙ is)

-- a record with no claim at its place has none at all, so adding a claim needs room
pub room_from_absent : (n r : ℕ) (cs : List Claim) (at : ℕ) → IsRising cs → IsPlaceOf r cs at → ((d : Claim) → slice_get cs at ≡ Some d → d.id ≢ r) → (length cs < n) ⊎ IsSome (mode_on cs r) → length cs < n
room_from_absent n r cs at h p apart (inl room) = room
room_from_absent n r cs at h p apart (inr held) = absurd (false≢true (subst IsSome (mode_on-absent r cs at h p apart) held))

-- what a caller that adds a few claims needs
pub ruleset lengths = length-with_claim-le
