-- When two lists of claims are the same: decided by their fields, and by a test of each claim.
use Rattle.std.proofs.Common.{◌≡◌, ◌↔◌, ℕ, Bool, true, false, IsTrue, List, refl, sym, ap, ◌∙◌, subst, ◌&&◌, ◌==◌}
use Rattle.vll_record.proofs.Common.{false≢true, Decides-eqb, slice_eq-Decides, Claim, Mode, Read, Write, Inside, is_write, is_same_claim, kept, IsCanonical}
use Rattle.std.specs.Bool.{Decides, beq}
use Rattle.std.specs.Cmp.{booleans_Decides}
use Rattle.std.specs.Cmp.Lexicographic.{pointwise}
use Rattle.vll_record.proofs.Laid.{lies-kept}

-- what has the same fields is the same list
pub same-from_fields : (a b : Inside) (cs ds : List Claim) → kept a ≡ cs → kept b ≡ ds → a.len ≡ b.len → a.modes.writes ≡ b.modes.writes → a.ids ≡ b.ids → cs ≡ ds
same-from_fields a b cs ds p q len writes ids =
    let one : ◌≡◌ {A = Inside} a (record { ids = b.ids; modes = a.modes; len = a.len }) = ap (λ (x : List ℕ). let i : Inside = record { ids = x; modes = a.modes; len = a.len } in i) ids in
    let two : ◌≡◌ {A = Inside} (record { ids = b.ids; modes = a.modes; len = a.len }) (record { ids = b.ids; modes = b.modes; len = a.len }) =
    ap (λ (x : ℕ). let i : Inside = record { ids = b.ids; modes = record { writes = x }; len = a.len } in i) writes in
    let three : ◌≡◌ {A = Inside} (record { ids = b.ids; modes = b.modes; len = a.len }) b = ap (λ (x : ℕ). let i : Inside = record { ids = b.ids; modes = b.modes; len = x } in i) len in
    sym p ∙ ap kept (one ∙ two ∙ three) ∙ q

-- and the same list has the same fields
pub fields_from_same : (a b : Inside) (cs ds : List Claim) → IsCanonical a → IsCanonical b → kept a ≡ cs → kept b ≡ ds → cs ≡ ds → a ≡ b
fields_from_same a b cs ds h k p q e = lies-kept a ds h (p ∙ e) ∙ sym (lies-kept b ds k q)

same_mode : (c d : Claim) → is_write c ≡ is_write d → c.mode ≡ d.mode
same_mode c d =
    elim c.mode as (λ m. is_write (record { id = c.id; mode = m }) ≡ is_write d → m ≡ d.mode) [
      | Read ↦ elim d.mode as (λ m. false ≡ is_write (record { id = d.id; mode = m }) → Read ≡ m) [ Read ↦ λ e. refl | Write ↦ λ e. absurd (false≢true e) ]
      | Write ↦ elim d.mode as (λ m. true ≡ is_write (record { id = d.id; mode = m }) → Write ≡ m) [ Read ↦ λ e. absurd (false≢true (sym e)) | Write ↦ λ e. refl ]
    ]

both_true : (a b : Bool) → (a && b) ≡ true → (a ≡ true) × (b ≡ true)
both_true true b e = (refl, e)
both_true false b e = absurd (false≢true e)

is_itself : (c : Claim) → is_same_claim c c ≡ true
is_itself c =
    let id : (c.id == c.id) ≡ true = (Decides-eqb c.id c.id).1 refl in
    let mode : beq (is_write c) (is_write c) ≡ true = (booleans_Decides (is_write c) (is_write c)).1 refl in
    rw id mode

is_same_claim-Decides : (c d : Claim) → Decides (is_same_claim c d) (c ≡ d)
is_same_claim-Decides c d = (
  λ e.
      let parts = both_true (c.id == d.id) (beq (is_write c) (is_write d)) e in
      let ids : c.id ≡ d.id = (Decides-eqb c.id d.id).0 parts.0 in
      let modes : c.mode ≡ d.mode = same_mode c d ((booleans_Decides (is_write c) (is_write d)).0 parts.1) in
      ap (λ (x : ℕ). let b : Claim = record { id = x; mode = c.mode } in b) ids ∙ ap (λ (x : Mode). let b : Claim = record { id = d.id; mode = x } in b) modes,
  λ e. subst (λ (x : Claim). is_same_claim c x ≡ true) e (is_itself c),
)

pub same_claims-Decides : (cs ds : List Claim) → Decides (pointwise is_same_claim cs ds) (cs ≡ ds)
same_claims-Decides cs ds = slice_eq-Decides is_same_claim-Decides cs ds (pointwise is_same_claim cs ds) refl

-- an answer that decides whether the lists are the same is the test's
pub same_answer : (r : Bool) (cs ds : List Claim) → IsTrue r ↔ (cs ≡ ds) → r ≡ pointwise is_same_claim cs ds
same_answer true cs ds tells = sym ((same_claims-Decides cs ds).1 (tells.0 refl))
same_answer false cs ds tells = none (pointwise is_same_claim cs ds) refl
  where
    none : (b : Bool) → pointwise is_same_claim cs ds ≡ b → false ≡ pointwise is_same_claim cs ds
    none true is = absurd (false≢true (tells.1 ((same_claims-Decides cs ds).0 is)))
    none false is = sym is
