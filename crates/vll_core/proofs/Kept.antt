-- What every reached state keeps, and that a changed entry keeps it.
use Rattle.std.proofs.Common.{◌≡◌, ℕ, Bool, true, false, ◌==◌, ◌&&◌, not, sym, ◌<◌, ◌≤◌, ◌||◌, ◌⊎◌, inl, inr, List, length, ap, ◌∙◌, subst, slice_get, Some, take, length-set}
use Rattle.vll_core.proofs.Common.{same_Some, list_any, flat_map, with_entry, Base, Entered, State, Turn, made, writes, records_before, is_aborted, open_of, is_clear, Opening, apply, Claim, conflict, conflicts, IsProper, AreProper, is_waiting, is_gone}
use Rattle.vll_core.proofs.Tests.{not_yes}
use Rattle.vll_core.proofs.Places.{at_set}
use Rattle.vll_core.proofs.SerialRun.{proper_keeps, records_same}
use Rattle.vll_core.proofs.Clear.{fewer, Fewer, fewer_open}
use Rattle.vll_core.proofs.Sound.{IsSound}

-- all loads and stores of a call are made, where it runs on these records
abbrev pub has_stored_on : Base → List ℕ → Entered → Bool
has_stored_on o now e =
    (e.loads == length e.call.claims) && (((e.loads == length e.call.claims) && is_aborted (apply o.procs e.call now).reply) || (e.stores == length (writes e.call)))

-- what an entry keeps, where the records before its ticket are these
pub record IsEntryKept (o : Base) (now : List ℕ) (e : Entered) : Type 0 where
  pub proper : IsProper o e.call
  pub loads : e.loads ≤ length e.call.claims
  pub stores : e.stores ≤ length (writes e.call)
  pub waiting : is_waiting e.status ≡ true → e.stores ≡ 0
  pub stored : 0 < e.stores → e.loads ≡ length e.call.claims
  pub released : 0 < e.releases → has_stored_on o now e ≡ true
  pub gone : is_gone e.status ≡ true → length e.call.claims ≤ e.releases

-- what an open turn keeps
pub record IsTurnKept (o : Opening) (entries : List Entered) (turn : Turn) : Type 0 where
  pub proper : IsProper o.base turn.call
  pub granted : turn.granted ≡ true → conflict (flat_map open_of entries) (take turn.requested turn.call.claims) ≡ false
  pub room : length entries < o.limit

-- what a state keeps
pub record IsKept (o : Opening) (s : State) : Type 0 where
  pub entries : (t : ℕ) (e : Entered) → slice_get s.entries t ≡ Some e → IsEntryKept o.base (records_before o.base s t) e
  pub clear : (t : ℕ) (e : Entered) → slice_get s.entries t ≡ Some e → is_waiting e.status ≡ false → is_clear s t e.call.claims ≡ true
  pub turn : (turn : Turn) → s.turn ≡ Some turn → IsTurnKept o s.entries turn
  pub scripts : AreProper o.base s.scripts
  pub room : length s.entries ≤ o.limit

-- what is kept is sound
pub sound_of : (o : Opening) (s : State) → IsKept o s → IsSound o.base s
sound_of o s kept = record {
  frames = λ v e records r many at none. proper_keeps o.base e.call records r many (kept.entries v e at).proper none;
  clear = kept.clear;
  waiting = λ v e at. (kept.entries v e at).waiting;
  stored = λ v e at. (kept.entries v e at).stored;
  released = λ v e at. (kept.entries v e at).released;
}

-- a changed entry keeps what is kept, where it keeps its own part, its open claims only go, and it is clear unless it waits
pub kept_entry : (o : Opening) (s : State) (t : ℕ) (e f : Entered) → IsKept o s → slice_get s.entries t ≡ Some e → made f ≡ made e
    → IsEntryKept o.base (records_before o.base s t) f → Fewer e f → (is_waiting f.status ≡ false → is_clear s t f.call.claims ≡ true)
    → IsKept o (with_entry s t f)
kept_entry o s t e f kept at same own less clear = record {
  entries = λ v d here. subst (λ now. IsEntryKept o.base now d) (sym (records_same o.base s t e f v at same)) (entry v d (at_set s.entries t f v d here));
  clear = λ v d here busy. still v d (at_set s.entries t f v d here) busy;
  turn = λ turn is. record {
    proper = (kept.turn turn is).proper;
    granted = λ g. fewer_open (λ x. list_any (conflicts x) (take turn.requested turn.call.claims)) s.entries t e f at less ((kept.turn turn is).granted g);
    room = rw (length-set s.entries t f) (kept.turn turn is).room;
  };
  scripts = kept.scripts;
  room = rw (length-set s.entries t f) kept.room;
}
  where
    entry : (v : ℕ) (d : Entered) → ((v ≡ t) × (d ≡ f)) ⊎ (slice_get s.entries v ≡ Some d) → IsEntryKept o.base (records_before o.base s v) d
    entry v d (inl is) = rw (is.0, is.1) own
    entry v d (inr here) = kept.entries v d here

    clear_still : (v : ℕ) (cs : List Claim) → is_clear s v cs ≡ true → is_clear (with_entry s t f) v cs ≡ true
    clear_still v cs h =
        ap not (fewer (λ x. list_any (conflicts x) cs) s.entries v t f
        (λ d here. subst (λ x. list_any (λ y. list_any (conflicts y) cs) (open_of x) ≡ false → list_any (λ y. list_any (conflicts y) cs) (open_of f) ≡ false) (same_Some e d (sym at ∙ here)) (less (λ y. list_any (conflicts y) cs)))
        (not_yes _ h))

    still : (v : ℕ) (d : Entered) → ((v ≡ t) × (d ≡ f)) ⊎ (slice_get s.entries v ≡ Some d) → is_waiting d.status ≡ false → is_clear (with_entry s t f) v d.call.claims ≡ true
    still v d (inl is) busy = rw (is.0, is.1) (clear_still t f.call.claims (clear (ap (λ (x : Entered). is_waiting x.status) (sym is.1) ∙ busy)))
    still v d (inr here) busy = clear_still v d.call.claims (kept.clear v d here busy)
