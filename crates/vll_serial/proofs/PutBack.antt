-- A call on plain records: what is put back, claim by claim, and what its records are then.
use Rattle.std.proofs.Common.{◌≡◌, ℕ, suc, ◌+◌, ◌<◌, ◌≤◌, ◌⊎◌, inl, inr, ⊎_elim, Bool, true, false, ◌==◌, List, [], ◌∷◌, length, Some, None, slice_get, slice_index, slice_set, refl, sym, ap, ◌∙◌, arith}
use Rattle.std.proofs.lemmas.Bool.{cases_eq, cond-false, eqb-true}
use Rattle.std.proofs.lemmas.List.{ext_get_or, get_or-set_other, get_or-set_same, length-set}
use Rattle.std.proofs.lemmas.Option.{same_Some, slice_get_within}
use Rattle.vll_record.specs.declared.claim.Claim.{Claim}
use Rattle.vll_record.specs.Claim.{mode_on, stronger_of}
use Rattle.vll_proc.specs.Cells.{Holds}
use Rattle.vll_serial.specs.Private.Alone.{StaysElsewhere}

-- a claim from an index on is on a record
pub record IsClaimed (claims : List Claim) (from r : ℕ) : Type 0 where
  pub index : ℕ
  pub claim : Claim
  pub late : from ≤ index
  pub at : slice_get claims index ≡ Some claim
  pub same : claim.id ≡ r

-- the first claim is on a record, or a later one is, or none
claimed_by : (c : Claim) (cs : List Claim) (r : ℕ) (b : Bool) → (c.id == r) ≡ b → IsClaimed cs 0 r ⊎ (mode_on cs r ≡ None) → IsClaimed (c ∷ cs) 0 r ⊎ (mode_on (c ∷ cs) r ≡ None)
claimed_by c cs r true is others = inl (record { index = 0; claim = c; late = omega arith; at = refl; same = eqb-true c.id r is })
claimed_by c cs r false is others = ⊎_elim
    (λ (k : IsClaimed cs 0 r). inl (record { index = suc k.index; claim = k.claim; late = omega arith; at = k.at; same = k.same }))
    (λ none. inr (cond-false (c.id == r) (stronger_of c.mode (mode_on cs r)) (mode_on cs r) is ∙ none))
    others

-- a claim is on a record, or none is
claimed : (claims : List Claim) (r : ℕ) → IsClaimed claims 0 r ⊎ (mode_on claims r ≡ None)
claimed [] r = inr refl
claimed (c ∷ cs) r = claimed_by c cs r (c.id == r) refl (claimed cs r)

-- the records of the claims before an index have been given the values of the cells
abbrev pub IsPutBack : List ℕ → List Claim → ℕ → List ℕ → List ℕ → Type 0
IsPutBack cells claims i before now =
    (after : List ℕ) → Holds cells claims after → StaysElsewhere claims before after
    → (length now ≡ length after) × ((r : ℕ) → (slice_index now r ≡ slice_index after r) ⊎ IsClaimed claims i r)

pub put_first : (cells : List ℕ) (claims : List Claim) (before : List ℕ) → IsPutBack cells claims 0 before before
put_first cells claims before after holds stays =
    (sym stays.number, λ r. ⊎_elim (λ (k : IsClaimed claims 0 r). inr k) (λ none. inl (sym (stays.others r none))) (claimed claims r))

pub put_next : (cells : List ℕ) (claims : List Claim) (i : ℕ) (before now next : List ℕ) (c : Claim) → slice_get claims i ≡ Some c → next ≡ slice_set now c.id (slice_index cells i)
    → IsPutBack cells claims i before now → IsPutBack cells claims (i + 1) before next
put_next cells claims i before now next c at is put after holds stays =
    let was = put after holds stays in
    let v = slice_index cells i in
    let within : c.id < length now = let many = was.0 in let low = (holds i c at).0 in omega (arith, many, low) in
    let Next : ℕ → Type 0 = λ r. (slice_index next r ≡ slice_index after r) ⊎ IsClaimed claims (i + 1) r in (
      ap length is ∙ (length-set now c.id v ∙ was.0),
      λ r. ⊎_elim
          (λ (same : r ≡ c.id). inl (ap (λ rs. slice_index rs r) is ∙ (ap (slice_index (slice_set now c.id v)) same ∙ (get_or-set_same now c.id v 0 within ∙ ((holds i c at).1 ∙ ap (slice_index after) (sym same))))))
          (λ (other : r ≡ c.id → ⊥). ⊎_elim
          (λ done. inl (ap (λ rs. slice_index rs r) is ∙ (get_or-set_other now c.id r v 0 other ∙ done)))
          (λ (k : IsClaimed claims i r). ⊎_elim
          (λ (here : k.index ≡ i). absurd (other (sym k.same ∙ ap (λ (d : Claim). d.id) (same_Some k.claim c (sym k.at ∙ (ap (slice_get claims) here ∙ at))))))
          (λ (later : k.index ≡ i → ⊥). inr (record { index = k.index; claim = k.claim; late = let low = k.late in omega (arith, low, later); at = k.at; same = k.same }))
          (cases_eq k.index i))
          (was.1 r))
          (cases_eq r c.id),
    )

pub put_last : (cells : List ℕ) (claims : List Claim) (i : ℕ) (before now : List ℕ) → length claims ≤ i → IsPutBack cells claims i before now
    → (after : List ℕ) → Holds cells claims after → StaysElsewhere claims before after → now ≡ after
put_last cells claims i before now past put after holds stays =
    let was = put after holds stays in
    ext_get_or 0 now after was.0
    (λ r low. ⊎_elim (λ done. done) (λ (k : IsClaimed claims i r). absurd (let late = k.late in let within = slice_get_within claims k.index k.claim k.at in omega (arith, late, within, past))) (was.1 r))

-- the cells of the claims before an index hold the values of their records
abbrev pub HoldsBefore : List ℕ → List Claim → List ℕ → ℕ → Type 0
HoldsBefore cells claims records i = (k : ℕ) (c : Claim) → k < i → slice_get claims k ≡ Some c → slice_index cells k ≡ slice_index records c.id

pub held_next : (cells next : List ℕ) (claims : List Claim) (records : List ℕ) (i : ℕ) (c : Claim) → i < length cells → slice_get claims i ≡ Some c → next ≡ slice_set cells i (slice_index records c.id)
    → HoldsBefore cells claims records i → HoldsBefore next claims records (i + 1)
held_next cells next claims records i c low here put held k d upto at =
    ap (λ xs. slice_index xs k) put
    ∙ ⊎_elim
    (λ (same : k ≡ i). let two : d ≡ c = same_Some d c (sym at ∙ (ap (slice_get claims) same ∙ here)) in
    ap (slice_index (slice_set cells i (slice_index records c.id))) same ∙ (get_or-set_same cells i (slice_index records c.id) 0 low ∙ ap (λ (x : Claim). slice_index records x.id) (sym two)))
    (λ (other : k ≡ i → ⊥). get_or-set_other cells i k (slice_index records c.id) 0 other ∙ held k d (omega (arith, upto, other)) at)
    (cases_eq k i)
