-- What lawful moves do to values.
use Rattle.std.proofs.Common.{◌≡◌, ℕ, suc, Bool, true, false, ◌==◌, ◌&&◌, not, refl, sym, arith, ◌<◌, ◌≤◌, ◌||◌, nat_lt, ◌⊎◌, inl, inr, ◌+◌, List, [], ◌∷◌, length, drop, ap, ◌∙◌, subst, slice_get, Some, ◌++◌, add-one, Option, None, length-append, slice_index}
use Rattle.vll_core.proofs.Common.{slice_get_within, same_Some, list_any, with_entry, has_stored, Base, Entered, State, Turn, made, writes, records_before, is_aborted, entered, will_store, unstored, value, has_aborted, Opening, apply, Claim, exact_unsigned_eq, RisesFrom-zero, and_from, and_left, and_right, false_from_ne_true, Move, stored_by, entry_store, is_on, is_waiting, is_running, Running, Gone, StoresMakeTheSerialState, OtherValuesStay}
use Rattle.vll_core.proofs.Tests.{both_true, and_not_parts, none_pos}
use Rattle.vll_core.proofs.Places.{drop_next, entry_at, get_set, at_push, get_pushed}
use Rattle.vll_core.proofs.OwnClaims.{IsClaimedAt, claimed_at, at_filter, RisesFrom-writes, none_behind}
use Rattle.vll_core.proofs.SerialRun.{length_before, before_more, apply_same, proper_keeps, made_at, records_same, records_pushed}
use Rattle.vll_core.proofs.Unstored.{below_first, at_first, first_le, will_here, not_before, value_from, value_replaced, value_same}
use Rattle.vll_core.proofs.Sound.{not_below, stored_sees}
use Rattle.vll_core.proofs.Kept.{IsKept, sound_of}
use Rattle.vll_core.proofs.Events.{running_not_waiting, kept_load, kept_store}
use Rattle.vll_core.proofs.Changes.{Change, store_is, change_of, admitted, fronted, picked, woken, loaded, stored, released, finished}
use Rattle.vll_core.proofs.Reached.{kept_reached}

abbrev pushed : State → Entered → Option Turn → State
pushed s new turn = record s { entries = s.entries ++ new ∷ []; turn = turn }

will_pushed : (o : Base) (s : State) (new : Entered) (turn : Option Turn) (r v : ℕ) (d : Entered) → v ≤ length s.entries → will_store o (pushed s new turn) r (v, d) ≡ will_store o s r (v, d)
will_pushed o s new turn r v d low =
    ap (λ now. list_any (λ (c : Claim). c.id == r) (drop d.stores (writes d.call)) && not ((d.loads == length d.call.claims) && is_aborted (apply o.procs d.call now).reply)) (records_pushed o s new turn v low)

-- that the record keeps its value where the call of an entry is applied
abbrev Stays : Base → State → ℕ → ℕ → Entered → Type 0
Stays o s r v d = slice_index (apply o.procs d.call (records_before o s v)).records r ≡ slice_index (records_before o s v) r

pub value_admit : (o : Base) (s : State) (new : Entered) (turn : Option Turn) (r : ℕ) → new.stores ≡ 0
    → ((records : List ℕ) → length records ≡ length o.records → list_any (λ (c : Claim). c.id == r) (writes new.call) ≡ false → slice_index (apply o.procs new.call records).records r ≡ slice_index records r)
    → value o (pushed s new turn) r ≡ value o s r
value_admit o s new turn r fresh frames =
    let within : unstored o s r ≤ length s.entries = first_le (will_store o s r) s.entries 0 in
    let longer = length-append s.entries (new ∷ []) in
    let above : unstored o s r ≤ unstored o (pushed s new turn) r =
    not_before o (pushed s new turn) r (unstored o s r) (omega (arith, within, longer)) (λ v d low at.
    will_pushed o s new turn r v d (omega (arith, low, within))
    ∙ (ap (λ m. will_store o s r (m, d)) (let z : v ≡ 0 + v = omega arith in z)
    ∙ below_first (will_store o s r) s.entries 0 v d low (old v d (omega (arith, low, within)) (at_push s.entries new v d at)))) in
    value_from o (pushed s new turn) r (unstored o s r) above (λ v d from upto at done. stays v d from upto done (at_push s.entries new v d at))
    ∙ ap (λ xs. slice_index xs r) (records_pushed o s new turn (unstored o s r) within)
  where
    old : (v : ℕ) (d : Entered) → v < length s.entries → (slice_get s.entries v ≡ Some d) ⊎ ((v ≡ length s.entries) × (d ≡ new)) → slice_get s.entries v ≡ Some d
    old v d low (inl at) = at
    old v d low (inr p) = absurd (let e = p.0 in omega (arith, low, e))

    new_stays : (v : ℕ) → (has_aborted o (pushed s new turn) v new ≡ true) ⊎ (list_any (λ (c : Claim). c.id == r) (drop new.stores (writes new.call)) ≡ false) → Stays o (pushed s new turn) r v new
    new_stays v (inl is) = ap (λ xs. slice_index xs r) (apply_same o.procs new.call (records_before o (pushed s new turn) v) (both_true _ _ is).1)
    new_stays v (inr none) = frames (records_before o (pushed s new turn) v) (length_before o.procs (entered (pushed s new turn)) o.records v) (ap (λ n. list_any (λ (c : Claim). c.id == r) (drop n (writes new.call))) (sym fresh) ∙ none)

    old_first : (n : ℕ) → unstored o s r < length s.entries → n < unstored o (pushed s new turn) r → unstored o s r ≤ n → ⊥
    old_first n low upto from =
        let first = at_first (will_store o s r) s.entries 0 low in
        let will : will_store o (pushed s new turn) r (unstored o s r, first.0) ≡ true =
        will_pushed o s new turn r (unstored o s r) first.0 (omega (arith, low))
        ∙ (ap (λ m. will_store o s r (m, first.0)) (let z : unstored o s r ≡ 0 + unstored o s r = omega arith in z) ∙ first.2) in
        let here : unstored o (pushed s new turn) r ≤ unstored o s r = will_here o (pushed s new turn) r (unstored o s r) first.0 (get_pushed s.entries new (unstored o s r) first.0 first.1) will in
        omega (arith, here, upto, from)

    stays : (v : ℕ) (d : Entered) → unstored o s r ≤ v → v < unstored o (pushed s new turn) r → will_store o (pushed s new turn) r (v, d) ≡ false
        → (slice_get s.entries v ≡ Some d) ⊎ ((v ≡ length s.entries) × (d ≡ new)) → Stays o (pushed s new turn) r v d
    stays v d from upto done (inl at) = absurd (old_first v (let z = slice_get_within s.entries v d at in omega (arith, from, z)) upto from)
    stays v d from upto done (inr p) =
        subst (Stays o (pushed s new turn) r v) (sym p.1) (new_stays v (and_not_parts _ _ (subst (λ (x : Entered). will_store o (pushed s new turn) r (v, x) ≡ false) p.1 done)))

value_abort : (o : Opening) (s : State) (t : ℕ) (e : Entered) (c d : Claim) (n : ℕ) → IsKept o s → slice_get s.entries t ≡ Some e → is_running e.status ≡ true → slice_get e.call.claims e.loads ≡ Some c
    → has_aborted o.base s t (record e { loads = e.loads + 1 }) ≡ true → slice_get e.call.claims n ≡ Some d → list_any (λ (x : Claim). x.id == d.id) (writes e.call) ≡ true
    → value o.base (with_entry s t (record e { loads = e.loads + 1 })) d.id ≡ value o.base s d.id
value_abort o s t e c d n kept at runs left aborts claim has =
    let f : Entered = record e { loads = e.loads + 1 } in
    let next : State = with_entry s t f in
    let own = kept.entries t e at in
    let low : e.loads < length e.call.claims = slice_get_within e.call.claims e.loads c left in
    let fresh : e.stores ≡ 0 = none_pos e.stores (λ z. let a = own.stored z in omega (arith, a, low)) in
    let held : e.releases ≡ 0 = none_pos e.releases (λ z. let a : e.loads ≡ length e.call.claims = exact_unsigned_eq e.loads (length e.call.claims) (both_true _ _ (own.released z)).0 in omega (arith, a, low)) in
    let busy : is_waiting e.status ≡ false = running_not_waiting e.status runs in
    let not_all : (e.loads == length e.call.claims) ≡ false = false_from_ne_true _ (λ z. let a = exact_unsigned_eq e.loads (length e.call.claims) z in omega (arith, a, low)) in
    let will : will_store o.base s d.id (t, e) ≡ true =
    and_from _ _ (ap (λ m. list_any (λ (x : Claim). x.id == d.id) (drop m (writes e.call))) fresh ∙ has) (ap not (and_left (e.loads == length e.call.claims) (is_aborted (apply o.base.procs e.call (records_before o.base s t)).reply) not_all)) in
    let below : unstored o.base s d.id ≤ t = will_here o.base s d.id t e at will in
    let above : unstored o.base s d.id < t → ⊥ = not_below o.base s t e d n (sound_of o s kept) at busy claim in
    let here : unstored o.base s d.id ≡ t = omega (arith, below, above) in
    let kept_next : IsKept o next = kept_load o s t e c kept at runs left in
    let same : (v : ℕ) → records_before o.base next v ≡ records_before o.base s v = λ v. records_same o.base s t e f v at refl in
    let aborts_next : has_aborted o.base next t f ≡ true = ap (λ now. (f.loads == length e.call.claims) && is_aborted (apply o.base.procs e.call now).reply) (same t) ∙ aborts in
    let done : will_store o.base next d.id (t, f) ≡ false = and_right _ _ (ap not aborts_next) in
    let at_next : slice_get next.entries t ≡ Some f = get_set s.entries t e f at in
    stored_sees o.base next t f d n (sound_of o next kept_next) at_next busy held claim done
    ∙ (ap (λ xs. slice_index xs d.id) (before_more o.base.procs (entered next) o.base.records t (made f) (made_at next.entries t f at_next))
    ∙ (ap (λ xs. slice_index xs d.id) (apply_same o.base.procs e.call (records_before o.base next t) (both_true _ _ aborts_next).1)
    ∙ (ap (λ xs. slice_index xs d.id) (same t) ∙ ap (λ m. slice_index (records_before o.base s m) d.id) (sym here))))

value_load : (o : Opening) (s : State) (t : ℕ) (e : Entered) (c : Claim) (r : ℕ) → IsKept o s → slice_get s.entries t ≡ Some e → is_running e.status ≡ true → slice_get e.call.claims e.loads ≡ Some c
    → value o.base (with_entry s t (record e { loads = e.loads + 1 })) r ≡ value o.base s r
value_load o s t e c r kept at runs left = by_cases (has_aborted o.base s t f) (list_any idr (drop e.stores (writes e.call))) refl refl
  where
    f : Entered
    f = record e { loads = e.loads + 1 }

    idr : Claim → Bool
    idr x = x.id == r

    low : e.loads < length e.call.claims
    low = slice_get_within e.call.claims e.loads c left

    not_yet : has_aborted o.base s t e ≡ false
    not_yet = and_left (e.loads == length e.call.claims) _ (false_from_ne_true _ (λ z. let a = exact_unsigned_eq e.loads (length e.call.claims) z in let b = low in omega (arith, a, b)))

    fresh : e.stores ≡ 0
    fresh = none_pos e.stores (λ z. let a = (kept.entries t e at).stored z in let b = low in omega (arith, a, b))

    by_cases : (a w : Bool) → has_aborted o.base s t f ≡ a → list_any idr (drop e.stores (writes e.call)) ≡ w → value o.base (with_entry s t f) r ≡ value o.base s r
    by_cases false w is has = value_replaced o.base s t e f r at refl (ap (λ b. list_any idr (drop e.stores (writes e.call)) && not b) (is ∙ sym not_yet))
    by_cases true false is has = value_replaced o.base s t e f r at refl (and_left _ _ has ∙ sym (and_left _ _ has))
    by_cases true true is has =
        let found : IsClaimedAt r e.call.claims = claimed_at r e.call.claims (ap (λ m. list_any idr (drop m (writes e.call))) (sym fresh) ∙ has) in
        let some : list_any (λ (x : Claim). x.id == found.claim.id) (writes e.call) ≡ true =
        ap (λ (m : ℕ). list_any (λ (x : Claim). x.id == m) (writes e.call)) found.names ∙ (ap (λ m. list_any idr (drop m (writes e.call))) (sym fresh) ∙ has) in
        subst (λ (m : ℕ). value o.base (with_entry s t f) m ≡ value o.base s m) found.names (value_abort o s t e c found.claim found.place kept at runs left is found.at some)

-- a store leaves the values of other records, and gives its own record the value after the ticket
value_store_other : (o : Base) (s : State) (t : ℕ) (e : Entered) (c : Claim) (r : ℕ) → slice_get s.entries t ≡ Some e → slice_get (writes e.call) e.stores ≡ Some c → (c.id == r) ≡ false
    → value o (with_entry s t (record e { stores = e.stores + 1 })) r ≡ value o s r
value_store_other o s t e c r at next other =
    let idr : Claim → Bool = λ x. x.id == r in
    let rest : list_any idr (drop (e.stores + 1) (writes e.call)) ≡ list_any idr (drop e.stores (writes e.call)) =
    sym (ap (list_any idr) (drop_next (writes e.call) e.stores c next) ∙ ap (λ b. b || list_any idr (drop (e.stores + 1) (writes e.call))) other) in
    value_replaced o s t e (record e { stores = e.stores + 1 }) r at refl (ap (λ b. b && not (has_aborted o s t e)) rest)

value_store : (o : Opening) (s : State) (t : ℕ) (e : Entered) (c : Claim) → IsKept o s → slice_get s.entries t ≡ Some e → is_running e.status ≡ true
    → nat_lt e.loads (length e.call.claims) ≡ false → has_stored o.base s t e ≡ false → slice_get (writes e.call) e.stores ≡ Some c
    → value o.base (with_entry s t (record e { stores = e.stores + 1 })) c.id ≡ slice_index (records_before o.base (with_entry s t (record e { stores = e.stores + 1 })) (suc t)) c.id
value_store o s t e c kept at runs all left write =
    let f : Entered = record e { stores = e.stores + 1 } in
    let next : State = with_entry s t f in
    let own = kept.entries t e at in
    let held : e.releases ≡ 0 = none_pos e.releases (λ z. cc (sym (own.released z) ∙ left)) in
    let claim = at_filter e.call.claims e.stores c write in
    let gone : list_any (λ (d : Claim). d.id == c.id) (drop (e.stores + 1) (writes e.call)) ≡ false =
    ap (λ m. list_any (λ (d : Claim). d.id == c.id) (drop m (writes e.call))) (add-one e.stores)
    ∙ none_behind 0 (writes e.call) e.stores c (RisesFrom-writes 0 e.call.claims (RisesFrom-zero e.call.claims own.proper.rising)) write in
    let done : will_store o.base next c.id (t, f) ≡ false = and_left (list_any (λ (d : Claim). d.id == c.id) (drop (e.stores + 1) (writes e.call))) (not (has_aborted o.base next t f)) gone in
    stored_sees o.base next t f c claim.0 (sound_of o next (kept_store o s t e kept at runs all left)) (get_set s.entries t e f at) (running_not_waiting e.status runs) held claim.1 done
    ∙ ap (λ m. slice_index (records_before o.base next m) c.id) (add-one t)

-- what a store makes of its record
pub store_reached : StoresMakeTheSerialState
store_reached o s next t e c seen reached at write is =
    let l = store_is o s t (seen, next) is in
    let same : l.entry ≡ e = same_Some l.entry e (sym l.at ∙ at) in
    let put : with_entry s t (record e { stores = e.stores + 1 }) ≡ next = ap (λ (x : Entered). with_entry s t (record x { stores = x.stores + 1 })) (sym same) ∙ l.is in
    subst (λ (n : State). value o.base n c.id ≡ slice_index (records_before o.base n (suc t)) c.id) put
    (value_store o s t e c (kept_reached o s reached) at (ap (λ (x : Entered). is_running x.status) (sym same) ∙ l.runs)
    (ap (λ (x : Entered). nat_lt x.loads (length x.call.claims)) (sym same) ∙ l.loaded) (ap (has_stored o.base s t) (sym same) ∙ l.left) write)

other_values : (o : Opening) (s : State) (m : Move) (next : State) (r : ℕ) → IsKept o s → Change o s m next → is_on r (stored_by s m) ≡ false → value o.base next r ≡ value o.base s r
other_values o s m next r kept (admitted turn status is all here free) other =
    value_admit o.base s (record { client = turn.client; call = turn.call; status = status; loads = 0; stores = 0; releases = 0 }) None r refl
    (λ records many none. proper_keeps o.base turn.call records r many (kept.turn turn is).proper none)
other_values o s m next r kept (fronted t f) other = value_same o.base s t f.entry Running f.entry.releases r f.at
other_values o s m next r kept (picked t p) other = value_same o.base s t p.entry Running p.entry.releases r p.at
other_values o s m next r kept (woken t e at waits clear) other = value_same o.base s t e Running e.releases r at
other_values o s m next r kept (loaded t e c at runs left) other = value_load o s t e c r kept at runs left
other_values o s m next r kept (stored t e at runs all left) other =
    let f : Entered = record e { stores = e.stores + 1 } in
    let own = (kept_store o s t e kept at runs all left).entries t f (get_set s.entries t e f at) in
    let c = entry_at (writes e.call) e.stores (let z = own.stores in omega (arith, z)) in
    let apart : (c.0.id == r) ≡ false = sym (ap (λ (x : Option Entered). is_on r (entry_store x)) at ∙ ap (is_on r) c.1) ∙ other in
    value_store_other o.base s t e c.0 r at c.1 apart
other_values o s m next r kept (released t e c at runs all left) other = value_same o.base s t e e.status (e.releases + 1) r at
other_values o s m next r kept (finished t e at runs all) other = value_same o.base s t e Gone e.releases r at
other_values o s m next r kept change other = refl

pub others_stay : OtherValuesStay
others_stay o s next m seen r reached is other = other_values o s m next r (kept_reached o s reached) (change_of o s m (seen, next) is) other
