-- Cells hold the values of the records of claims, each at the place of its claim.
use Rattle.std.proofs.Common.{◌≡◌, ◌≢◌, ℕ, ◌<◌, ◌≤◌, Bool, true, false, ◌&&◌, List, length, Some, slice_get, slice_index, slice_set, refl, sym, ap, ◌∙◌, arith, ⊎_elim}
use Rattle.vll_proc.proofs.Common.{cases_eq, false≢true, get_or-set_same, get_or-set_other, length-set, same_Some, slice_get_within, Claim, IsRising, Holds}
use Rattle.vll_record.proofs.Rising.{same_place}

-- a place among claims whose claim is of a record
pub record IsPlaceFor (claims : List Claim) (place r : ℕ) : Type 0 where
  pub claim : Claim
  pub stands : slice_get claims place ≡ Some claim
  pub is_for : claim.id ≡ r

pub both_true : (a b : Bool) → (a && b) ≡ true → (a ≡ true) × (b ≡ true)
both_true true b h = (refl, h)
both_true false b h = absurd (false≢true h)

-- a value stored at a claim's cell and in its record
pub Holds-set : (cells : List ℕ) (claims : List Claim) (records : List ℕ) (i : ℕ) (c : Claim) (v : ℕ)
    → IsRising claims → length claims ≤ length cells → slice_get claims i ≡ Some c → Holds cells claims records → Holds (slice_set cells i v) claims (slice_set records c.id v)
Holds-set cells claims records i c v rising room is h j d at =
    let there : c.id < length records = (h i c is).0 in
    let held = h j d at in
    let more : d.id < length (slice_set records c.id v) = rw length-set held.0 in
    ⊎_elim
    (λ (e : i ≡ j).
    let same : c ≡ d = same_Some c d (sym is ∙ ap (slice_get claims) e ∙ at) in
    let cell : i < length cells = omega (arith, slice_get_within claims i c is) in
    (more, ap (slice_index (slice_set cells i v)) (sym e) ∙ get_or-set_same cells i v 0 cell ∙ sym (get_or-set_same records c.id v 0 there) ∙ ap (λ (x : Claim). slice_index (slice_set records c.id v) x.id) same))
    (λ (ne : i ≡ j → ⊥).
    let apart : d.id ≢ c.id = λ e. ne (same_place claims i j c d rising is at (sym e)) in
    (more, get_or-set_other cells i j v 0 (λ e. ne (sym e)) ∙ held.1 ∙ sym (get_or-set_other records c.id d.id v 0 apart)))
    (cases_eq i j)
