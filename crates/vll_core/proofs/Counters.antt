-- What lawful moves do to counters, and how many open claims a record has.
use Rattle.std.proofs.Common.{◌≡◌, ℕ, suc, ◌&&◌, not, refl, sym, arith, ◌≤◌, ◌+◌, List, [], ◌∷◌, length, ap, ◌∙◌, slice_get, Some, ◌++◌, take, Option, None, take_all, append-nil}
use Rattle.vll_core.proofs.Common.{flat_map, Entered, State, Turn, open_of, requested_of, counter, delta_on, Opening, open_claims, is_write, IsRising, conflict, claims_on, Move, requested_by, released_by, turn_request, entry_release, delta_if, flat_map-cons, flat_map-append, count_by-le-length, CountersChangeByDeltas, CountersStayWithinTheLimit}
use Rattle.vll_core.proofs.Tests.{lt_no}
use Rattle.vll_core.proofs.OwnClaims.{once, on-append, on_part}
use Rattle.vll_core.proofs.Deltas.{word_on, counter_request, counter_release, counter_same}
use Rattle.vll_core.proofs.Kept.{IsKept}
use Rattle.vll_core.proofs.Changes.{Change, change_of, sourced, entered_by, handed, requested, admitted, fronted, picked, woken, loaded, stored, released, finished}
use Rattle.vll_core.proofs.Reached.{kept_reached}

plus_none : (a b : ℕ) → a ≡ b → a + 0 ≡ b + 0
plus_none a b h = omega (arith, h)

-- a turn that opens where none was
opened_same : (s : State) (r : ℕ) → s.turn ≡ None → word_on r (flat_map open_of s.entries ++ []) ≡ counter s r
opened_same s r none = ap (λ (x : Option Turn). word_on r (flat_map open_of s.entries ++ requested_of x)) (sym none)

-- the claims of an admitted call were those of the turn
admitted_same : (s : State) (turn : Turn) (new : Entered) (r : ℕ) → s.turn ≡ Some turn → length turn.call.claims ≤ turn.requested → open_of new ≡ turn.call.claims
    → word_on r (flat_map open_of (s.entries ++ new ∷ []) ++ []) ≡ counter s r
admitted_same s turn new r is all own =
    let whole : take turn.requested turn.call.claims ≡ turn.call.claims = take_all turn.requested turn.call.claims all in
    let left : flat_map open_of (s.entries ++ new ∷ []) ++ [] ≡ flat_map open_of s.entries ++ turn.call.claims =
    append-nil (flat_map open_of (s.entries ++ new ∷ []))
    ∙ (flat_map-append open_of s.entries (new ∷ []) ∙ ap (λ xs. flat_map open_of s.entries ++ xs) (flat_map-cons open_of new [] ∙ (append-nil (open_of new) ∙ own))) in
    let right : flat_map open_of s.entries ++ turn.call.claims ≡ open_claims s =
    ap (λ xs. flat_map open_of s.entries ++ xs) (sym whole) ∙ ap (λ (x : Option Turn). flat_map open_of s.entries ++ requested_of x) (sym is) in
    ap (word_on r) (left ∙ right)

counter_change : (o : Opening) (s : State) (m : Move) (next : State) (r : ℕ) → Change o s m next → counter next r + delta_if r (released_by s m) ≡ counter s r + delta_if r (requested_by s m)
counter_change o s m next r (sourced client call n at from) = plus_none _ _ refl
counter_change o s m next r (entered_by client first call none at is room waits) = plus_none _ _ (opened_same s r none)
counter_change o s m next r (handed client call none room waits) = plus_none _ _ (opened_same s r none)
counter_change o s m next r (requested turn c is at) =
    let delta : delta_if r (turn_request s.turn) ≡ delta_on r c = ap (λ (x : Option Turn). delta_if r (turn_request x)) is ∙ ap (delta_if r) at in
    let more = counter_request s turn c (turn.granted && not (conflict (open_claims s) (c ∷ []))) r is at in
    omega (arith, delta, more)
counter_change o s m next r (admitted turn status is all here free) = plus_none _ _ (admitted_same s turn _ r is (lt_no turn.requested (length turn.call.claims) all) refl)
counter_change o s m next r (fronted t f) = plus_none _ _ (counter_same s t f.entry _ r f.at refl)
counter_change o s m next r (picked t p) = plus_none _ _ (counter_same s t p.entry _ r p.at refl)
counter_change o s m next r (woken t e at waits clear) = plus_none _ _ (counter_same s t e _ r at refl)
counter_change o s m next r (loaded t e c at runs left) = plus_none _ _ (counter_same s t e _ r at refl)
counter_change o s m next r (stored t e at runs all left) = plus_none _ _ (counter_same s t e _ r at refl)
counter_change o s m next r (released t e c at runs all left) =
    let delta : delta_if r (entry_release (slice_get s.entries t)) ≡ delta_on r c = ap (λ (x : Option Entered). delta_if r (entry_release x)) at ∙ ap (delta_if r) left in
    let less = counter_release s t e c r at left in
    omega (arith, delta, less)
counter_change o s m next r (finished t e at runs all) = plus_none _ _ (counter_same s t e _ r at refl)

pub counters_change : CountersChangeByDeltas
counters_change o s next m seen r is = counter_change o s m next r (change_of o s m (seen, next) is)

on_entries : (r : ℕ) (es : List Entered) → ((t : ℕ) (e : Entered) → slice_get es t ≡ Some e → IsRising e.call.claims) → length (claims_on r (flat_map open_of es)) ≤ length es
on_entries r [] rising = omega arith
on_entries r (e ∷ es) rising =
    let first = once r e.call.claims (rising 0 e refl) in
    let part = on_part e.releases r e.call.claims in
    let rest = on_entries r es (λ t d at. rising (suc t) d at) in
    let both = ap (λ xs. length (claims_on r xs)) (flat_map-cons open_of e es) ∙ on-append r (open_of e) (flat_map open_of es) in
    omega (arith, first, part, rest, both)

few_open : (o : Opening) (s : State) (r : ℕ) → IsKept o s → length (claims_on r (open_claims s)) ≤ o.limit
few_open o s r kept =
    let entries = on_entries r s.entries (λ t e at. (kept.entries t e at).proper.rising) in
    let both = on-append r (flat_map open_of s.entries) (requested_of s.turn) in
    by_turn s.turn refl entries both
  where
    by_turn : (x : Option Turn) → s.turn ≡ x → length (claims_on r (flat_map open_of s.entries)) ≤ length s.entries
        → length (claims_on r (open_claims s)) ≡ length (claims_on r (flat_map open_of s.entries)) + length (claims_on r (requested_of s.turn)) → length (claims_on r (open_claims s)) ≤ o.limit
    by_turn None is entries both =
        let none : length (claims_on r (requested_of s.turn)) ≡ 0 = ap (λ (x : Option Turn). length (claims_on r (requested_of x))) is in
        let room = kept.room in
        omega (arith, none, entries, both, room)
    by_turn (Some turn) is entries both =
        let own = kept.turn turn is in
        let room = own.room in
        let one = once r turn.call.claims own.proper.rising in
        let part = on_part turn.requested r turn.call.claims in
        let asked : length (claims_on r (requested_of s.turn)) ≡ length (claims_on r (take turn.requested turn.call.claims)) = ap (λ (x : Option Turn). length (claims_on r (requested_of x))) is in
        omega (arith, asked, entries, both, room, one, part)

pub counters_within : CountersStayWithinTheLimit
counters_within o s r reached =
    let few = few_open o s r (kept_reached o s reached) in
    let writes = count_by-le-length is_write (claims_on r (open_claims s)) in
    let reads = count_by-le-length (λ c. not (is_write c)) (claims_on r (open_claims s)) in
    (few, omega (arith, few, writes), omega (arith, few, reads))
