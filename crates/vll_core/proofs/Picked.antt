-- The ticket that the scan picks: it waits, and no lower one that is not gone conflicts with it.
use Rattle.std.proofs.Common.{◌≡◌, ℕ, Bool, true, false, not, ◌<◌, map, slice_get, Some, option_map, refl, ap, ◌∙◌, sym}
use Rattle.vll_core.proofs.Common.{false_from_ne_true, length-map, slice_get-map, list_any, Claim, conflict, conflicts, scan, is_waiting, is_gone, scanned_within, scanned_waits, scanned_is_clear, scanned, Opening, Entered, State, open_of, is_clear}
use Rattle.vll_core.proofs.Places.{drop_none, entry_at}
use Rattle.vll_core.proofs.OwnClaims.{drop_any}
use Rattle.vll_core.proofs.Clear.{none_met}
use Rattle.vll_core.proofs.Kept.{IsKept}

-- ticket t waits, and conflicts with no lower one that is not gone
pub record IsPicked (s : State) (t : ℕ) : Type 0 where
  pub entry : Entered
  pub at : slice_get s.entries t ≡ Some entry
  pub waits : is_waiting entry.status ≡ true
  pub apart : (v : ℕ) (e : Entered) → v < t → slice_get s.entries v ≡ Some e → is_gone e.status ≡ false → conflict e.call.claims entry.call.claims ≡ false

pub picked_is : (place : ℕ → ℕ) (bits : ℕ) (s : State) (t : ℕ) → scan place bits (map scanned s.entries) ≡ Some t → IsPicked s t
picked_is place bits s t h =
    let e = entry_at s.entries t (rw (← length-map s.entries scanned) (scanned_within place bits (map scanned s.entries) t h)) in
    record {
      entry = e.0;
      at = e.1;
      waits = scanned_waits place bits (map scanned s.entries) t (scanned e.0) h (seen t e.0 e.1);
      apart = λ v d low at left. scanned_is_clear place bits (map scanned s.entries) t (scanned e.0) h (seen t e.0 e.1) v (scanned d) low (seen v d at) left;
    }
  where
    seen : (v : ℕ) (d : Entered) → slice_get s.entries v ≡ Some d → slice_get (map scanned s.entries) v ≡ Some (scanned d)
    seen v d at = slice_get-map scanned s.entries v ∙ ap (option_map scanned) at

-- such a ticket is clear: what is gone has no open claim
pub clear_picked : (o : Opening) (s : State) (t : ℕ) → IsKept o s → (p : IsPicked s t) → is_clear s t p.entry.call.claims ≡ true
clear_picked o s t kept p = ap not (none_met meets s.entries t (λ v e low at. by_status v e low at (is_gone e.status) refl))
  where
    meets : Claim → Bool
    meets x = list_any (conflicts x) p.entry.call.claims

    by_status : (v : ℕ) (e : Entered) → v < t → slice_get s.entries v ≡ Some e → (b : Bool) → is_gone e.status ≡ b → list_any meets (open_of e) ≡ false
    by_status v e low at true gone = ap (list_any meets) (drop_none e.releases e.call.claims ((kept.entries v e at).gone gone))
    by_status v e low at false left = false_from_ne_true _ (λ h. cc (sym (p.apart v e low at left) ∙ drop_any meets e.releases e.call.claims h))
