-- A call that was made for a well-formed procedure is proper.
use Rattle.std.proofs.Common.{◌≡◌, ◌≢◌, ℕ, List, length, Option, Some, sym, ap, ◌∙◌, subst, slice_get, slice_index}
use Rattle.vll_core.proofs.Common.{Write, mode_on, Call, Proc, IsCallOf, applied, applied_at, IsWellFormed, claims_rise, Base, IsProper}

-- a call changes no record that it does not claim for writing
abbrev pub ChangesClaimedRecordsAlone : Type 0
ChangesClaimedRecordsAlone =
    (p : Proc) (c : Call) (records : List ℕ) → IsWellFormed p → IsCallOf (length records) p c → (r : ℕ) → mode_on c.claims r ≢ Some Write → slice_index (applied p c records).records r ≡ slice_index records r

pub proper_call : ChangesClaimedRecordsAlone → (o : Base) (p : Proc) (call : Call) → slice_get o.procs call.number ≡ Some p → IsWellFormed p → IsCallOf (length o.records) p call → IsProper o call
proper_call alone o p call found formed made = record {
  rising = claims_rise (length o.records) p call made;
  changes_its_own = λ records r many free.
      ap (λ (x : Option Proc). slice_index (applied_at x call records).records r) found ∙ alone p call records formed (subst (λ (n : ℕ). IsCallOf n p call) (sym many) made) r free;
}
