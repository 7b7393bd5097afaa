-- A call that waits has made no step, in every state that lawful moves reach.
use Rattle.std.proofs.Common.{◌≡◌, ◌⊎◌, ℕ, true, false, refl, sym, ap, ◌∙◌, inl, inr, slice_get, Some, length}
use Rattle.vll_counters.proofs.Common.{Running, Gone, is_waiting, Opening, Entered, State, with_entry, Move, IsReached, begun, moved, at_push, running_not_waiting, Change, change_of, fronted, picked, woken}
use Rattle.vll_core.proofs.Places.{at_set}
use Rattle.vll_core.proofs.Changes.{admitted, loaded, stored, released, finished}

pub record IsFresh (e : Entered) : Type 0 where
  pub loads : e.loads ≡ 0
  pub stores : e.stores ≡ 0
  pub releases : e.releases ≡ 0

abbrev pub AreFresh : State → Type 0
AreFresh s = (t : ℕ) (e : Entered) → slice_get s.entries t ≡ Some e → is_waiting e.status ≡ true → IsFresh e

-- an entry that does not wait is put in the place of another
fresh_set : (s : State) (t : ℕ) (f : Entered) → is_waiting f.status ≡ false → AreFresh s → AreFresh (with_entry s t f)
fresh_set s t f busy fresh n d at waits = by_place (at_set s.entries t f n d at)
  where
    by_place : ((n ≡ t) × (d ≡ f)) ⊎ (slice_get s.entries n ≡ Some d) → IsFresh d
    by_place (inl p) = absurd (cc (sym busy ∙ ap (λ (x : Entered). is_waiting x.status) (sym p.1) ∙ waits))
    by_place (inr h) = fresh n d h waits

fresh_change : (o : Opening) (s : State) (m : Move) (next : State) → Change o s m next → AreFresh s → AreFresh next
fresh_change o s m next (admitted turn status is all here free) fresh = λ t e at waits. by_place t e (at_push s.entries new t e at) waits
  where
    new : Entered
    new = record { client = turn.client; call = turn.call; status = status; loads = 0; stores = 0; releases = 0 }

    by_place : (t : ℕ) (e : Entered) → (slice_get s.entries t ≡ Some e) ⊎ ((t ≡ length s.entries) × (e ≡ new)) → is_waiting e.status ≡ true → IsFresh e
    by_place t e (inl h) waits = fresh t e h waits
    by_place t e (inr p) waits = record { loads = ap (λ (x : Entered). x.loads) p.1; stores = ap (λ (x : Entered). x.stores) p.1; releases = ap (λ (x : Entered). x.releases) p.1 }
fresh_change o s m next (fronted t f) fresh = fresh_set s t (record f.entry { status = Running }) refl fresh
fresh_change o s m next (picked t p) fresh = fresh_set s t (record p.entry { status = Running }) refl fresh
fresh_change o s m next (woken t e at waits clear) fresh = fresh_set s t (record e { status = Running }) refl fresh
fresh_change o s m next (loaded t e c at runs left) fresh = fresh_set s t _ (running_not_waiting e.status runs) fresh
fresh_change o s m next (stored t e at runs all left) fresh = fresh_set s t _ (running_not_waiting e.status runs) fresh
fresh_change o s m next (released t e c at runs all left) fresh = fresh_set s t _ (running_not_waiting e.status runs) fresh
fresh_change o s m next (finished t e at runs all) fresh = fresh_set s t (record e { status = Gone }) refl fresh
fresh_change o s m next other fresh = fresh

pub fresh_reached : (o : Opening) (s : State) → IsReached o s → AreFresh s
fresh_reached o s (begun scripts proper) = λ t e at waits. absurd (cc at)
fresh_reached o s (moved before m seen next reached lawful is) = fresh_change o before m s (change_of o before m (seen, s) is) (fresh_reached o before reached)
