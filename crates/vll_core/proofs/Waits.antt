-- How many calls wait: never more than the cap, and fewer while a turn is open.
use Rattle.std.proofs.Common.{◌≡◌, ℕ, ◌≤◌, ◌<◌, Bool, true, false, List, [], ◌∷◌, slice_get, slice_set, get_or, Some, cond, count_by, refl, ap, arith}
use Rattle.vll_core.proofs.Common.{count_by-le-length, sum_by-append, sum_by-set, slice_get_within, get_or_from_slice_get, is_waiting, waiting, with_entry, Move, IsReached, begun, moved, Opening, Entered, State, Turn}
use Rattle.vll_core.proofs.Tests.{le_no}
use Rattle.vll_core.proofs.Changes.{Change, change_of, sourced, entered_by, handed, requested, admitted, fronted, picked, woken, loaded, stored, released, finished}

abbrev does_wait : Entered → Bool
does_wait e = is_waiting e.status

-- no more than the cap wait, and fewer while a turn is open
pub record IsCapped (o : Opening) (s : State) : Type 0 where
  pub within : waiting s ≤ o.cap
  pub turn : (turn : Turn) → s.turn ≡ Some turn → waiting s < o.cap

one_put : (a b : Bool) → (a ≡ true → b ≡ true) → cond a 1 0 ≤ cond b 1 0
one_put true true less = omega arith
one_put true false less = absurd (cc (less refl))
one_put false true less = omega arith
one_put false false less = omega arith

-- no more entries pass a test, where one is replaced by one that passes it only if the old one does
count_put : (p : Entered → Bool) (es : List Entered) (t : ℕ) (e f : Entered) → slice_get es t ≡ Some e → (p f ≡ true → p e ≡ true)
    → count_by p (slice_set es t f) ≤ count_by p es
count_put p es t e f at less =
    let sums = sum_by-set (λ (x : Entered). cond (p x) 1 0) es t f e (slice_get_within es t e at) in
    let old : cond (p (get_or es t e)) 1 0 ≡ cond (p e) 1 0 = ap (λ (x : Entered). cond {A = ℕ} (p x) 1 0) (get_or_from_slice_get es t e e at) in
    let one = one_put (p f) (p e) less in
    omega (arith, sums, old, one)

capped_put : (o : Opening) (s : State) (t : ℕ) (e f : Entered) → IsCapped o s → slice_get s.entries t ≡ Some e → (is_waiting f.status ≡ true → is_waiting e.status ≡ true)
    → IsCapped o (with_entry s t f)
capped_put o s t e f capped at less =
    let fewer = count_put does_wait s.entries t e f at less in
    record {
      within = let z = capped.within in omega (arith, fewer, z);
      turn = λ turn is. let z = capped.turn turn is in omega (arith, fewer, z);
    }

capped_opened : (o : Opening) (s : State) (turn : Turn) (scripts : List (List _)) (values : List _) → IsCapped o s → waiting s < o.cap → IsCapped o (record s { turn = Some turn; scripts = scripts; kept = values })
capped_opened o s turn scripts values capped room = record { within = capped.within; turn = λ other is. room }

capped_change : (o : Opening) (s : State) (m : Move) (next : State) → IsCapped o s → Change o s m next → IsCapped o next
capped_change o s m next capped (sourced client call r at from) = record { within = capped.within; turn = capped.turn }
capped_change o s m next capped (entered_by client first call none at is room waits) = capped_opened o s _ _ _ capped (le_no o.cap (waiting s) waits)
capped_change o s m next capped (handed client call none room waits) = capped_opened o s _ s.scripts s.kept capped (le_no o.cap (waiting s) waits)
capped_change o s m next capped (requested turn c is at) = record { within = capped.within; turn = λ other same. capped.turn turn is }
capped_change o s m next capped (admitted turn status is all here free) =
    let new : Entered = record { client = turn.client; call = turn.call; status = status; loads = 0; stores = 0; releases = 0 } in
    let more = sum_by-append (λ (e : Entered). cond (does_wait e) 1 0) s.entries (new ∷ []) in
    let one = count_by-le-length does_wait (new ∷ []) in
    let room = capped.turn turn is in
    record { within = omega (arith, more, one, room); turn = λ other same. absurd (cc same) }
capped_change o s m next capped (fronted t f) = capped_put o s t f.entry _ capped f.at (λ h. absurd (cc h))
capped_change o s m next capped (picked t p) = capped_put o s t p.entry _ capped p.at (λ h. absurd (cc h))
capped_change o s m next capped (woken t e at waits clear) = capped_put o s t e _ capped at (λ h. absurd (cc h))
capped_change o s m next capped (loaded t e c at runs left) = capped_put o s t e _ capped at (λ h. h)
capped_change o s m next capped (stored t e at runs all left) = capped_put o s t e _ capped at (λ h. h)
capped_change o s m next capped (released t e c at runs all left) = capped_put o s t e _ capped at (λ h. h)
capped_change o s m next capped (finished t e at runs all) = capped_put o s t e _ capped at (λ h. absurd (cc h))

pub capped_reached : (o : Opening) (s : State) → IsReached o s → IsCapped o s
capped_reached o s (begun scripts proper) = record { within = omega arith; turn = λ turn is. absurd (cc is) }
capped_reached o s (moved before m seen next reached lawful is) = capped_change o before m s (capped_reached o before reached) (change_of o before m (seen, s) is)
