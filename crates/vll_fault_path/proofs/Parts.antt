-- How a way goes on from a part to the next one, and where it ends.
use Rattle.std.proofs.Common.{◌≡◌, ◌∙◌, ◌++◌, true, false, List, [], ◌∷◌, Some, None, Result, Ok, Err, ap, append-nil, append_assoc, refl, sym}
use Rattle.std.specs.Prelude.{OnOk}
use Rattle.vll_check.specs.declared.piece.Before.{Before}
use Rattle.vll_check.specs.declared.piece.Piecewise.{Piecewise}
use Rattle.vll_fault_path.specs.declared.piece.Step.{Step}
use Rattle.vll_fault_path.specs.Parts.{HasParts, Part, Placed, after_part, first_part, part_passes}
use Rattle.vll_fault_path.specs.Private.{LeadsOn}

module _ (t : Piecewise) (before : Before) (part : Part) (ps : List Placed) where
  pub ends : (old new : List Step) → HasParts part ps → first_part t before ps ≡ None → new ≡ old → LeadsOn t before part old new
  ends old new has none same = ([], same ∙ sym (append-nil old), (ps, has, none))

  pub goes_on : (old mid new : List Step) (found : Before × Placed) → HasParts part ps → first_part t before ps ≡ Some found → mid ≡ old ++ found.1.step ∷ []
      → LeadsOn t found.0 found.1.part mid new → LeadsOn t before part old new
  goes_on old mid new found has first pushed on =
      (found.1.step ∷ on.0, on.1 ∙ ap (λ xs. xs ++ on.0) pushed ∙ append_assoc old (found.1.step ∷ []) on.0, (ps, has, (found, first, refl, on.2)))

-- the same if the next part's way is found
pub into : {V E : Type 0} (r : Result V E) (t : Piecewise) (before : Before) (part : Part) (ps : List Placed) (found : Before × Placed) (old mid new : List Step) → HasParts part ps
    → first_part t before ps ≡ Some found → mid ≡ old ++ found.1.step ∷ [] → OnOk r (LeadsOn t found.0 found.1.part mid new) → OnOk r (LeadsOn t before part old new)
into (Ok v) t before part ps found old mid new has first pushed on = goes_on t before part ps old mid new found has first pushed on
into (Err e) t before part ps found old mid new has first pushed on = tt

pub part-passes : (t : Piecewise) (before : Before) (p : Placed) (ps : List Placed) → part_passes t before p.part ≡ true → first_part t before (p ∷ ps) ≡ first_part t (after_part before p.part) ps
part-passes t before p ps is = rw is refl

pub part-fails : (t : Piecewise) (before : Before) (p : Placed) (ps : List Placed) → part_passes t before p.part ≡ false → first_part t before (p ∷ ps) ≡ Some (before, p)
part-fails t before p ps is = rw is refl
