-- Where no turn is open and no call waits or runs: each call is gone, and values and counters are those of the end.
use Rattle.std.proofs.Common.{◌≡◌, ℕ, ◌+◌, ◌≤◌, Bool, true, false, ◌==◌, not, List, [], ◌++◌, length, drop, slice_get, slice_index, Option, Some, None, count_by, cond, refl, ap, ◌∙◌, sym, arith}
use Rattle.vll_core.proofs.Common.{take-length, and_left, and_right, false_from_ne_true, length-map, count_by-le-length, count_by_more_yes, length-filter, sum_by-take-le, exact_unsigned_eq, slice_get_within, slice_get-get_or, get_or_from_slice_get, list_any, flat_map, Claim, is_write, claims_on, pair_word_of, Made, end, Status, Running, Waiting, Gone, is_waiting, is_running, is_gone, IsAtEnd, IsReached, FinishedMachinesHaveTheSerialEnd, Base, Opening, Entered, State, Turn, made, entered, writes, open_of, requested_of, records_before, counter, will_store, unstored, value, has_aborted}
use Rattle.vll_core.proofs.Tests.{both_true, or_rest, none_pos, at_least}
use Rattle.vll_core.proofs.Places.{drop_none}
use Rattle.vll_core.proofs.Clear.{none_open}
use Rattle.vll_core.proofs.Unstored.{first_le, not_before}
use Rattle.vll_core.proofs.Kept.{IsEntryKept, IsKept}
use Rattle.vll_core.proofs.Reached.{kept_reached}

-- where none is counted, none passes
none_counted : (p : Entered → Bool) (es : List Entered) (t : ℕ) (e : Entered) → count_by p es ≡ 0 → slice_get es t ≡ Some e → p e ≡ false
none_counted p es t e none at = false_from_ne_true (p e) (λ h.
    let more = count_by_more_yes p es t e (slice_get_within es t e at) (ap p (get_or_from_slice_get es t e e at) ∙ h) in
    let few = sum_by-take-le (λ (x : Entered). cond (p x) 1 0) es (t + 1) in
    omega (arith, more, few, none))

left_is_gone : (x : Status) → is_waiting x ≡ false → is_running x ≡ false → is_gone x ≡ true
left_is_gone Running h k = absurd (cc k)
left_is_gone Waiting h k = absurd (cc h)
left_is_gone Gone h k = refl

-- a call that is gone is yet to store no record
gone_stores_none : (o : Base) (s : State) (t : ℕ) (e : Entered) (r : ℕ) → IsEntryKept o (records_before o s t) e → is_gone e.status ≡ true → will_store o s r (t, e) ≡ false
gone_stores_none o s t e r kept gone = by_abort (has_aborted o s t e) refl
  where
    on_r : Claim → Bool
    on_r c = c.id == r

    -- what has released a claim has made its stores, and what has released none has no claim to store
    all_stored : has_aborted o s t e ≡ false → length (writes e.call) ≤ e.stores
    all_stored alive = at_least e.stores (length (writes e.call)) (λ less.
        let held = none_pos e.releases (λ some.
        let same = exact_unsigned_eq e.stores (length (writes e.call)) (or_rest (has_aborted o s t e) _ (both_true (e.loads == length e.call.claims) _ (kept.released some)).1 alive) in
        omega (arith, same, less)) in
        let claims = kept.gone gone in
        let as_many = length-filter is_write e.call.claims in
        let some_of = count_by-le-length is_write e.call.claims in
        omega (arith, held, claims, as_many, some_of, less))

    by_abort : (b : Bool) → has_aborted o s t e ≡ b → will_store o s r (t, e) ≡ false
    by_abort true is = and_right (list_any on_r (drop e.stores (writes e.call))) (not (has_aborted o s t e)) (ap not is)
    by_abort false is = and_left (list_any on_r (drop e.stores (writes e.call))) (not (has_aborted o s t e)) (ap (list_any on_r) (drop_none e.stores (writes e.call) (all_stored is)))

-- where each call is gone, no record is yet to be stored
finished_value : (o : Opening) (s : State) (r : ℕ) → IsKept o s → ((t : ℕ) (e : Entered) → slice_get s.entries t ≡ Some e → is_gone e.status ≡ true)
    → value o.base s r ≡ slice_index (end o.base.procs (entered s) o.base.records) r
finished_value o s r kept gone =
    let above = not_before o.base s r (length s.entries) (omega arith) (λ v d low at. gone_stores_none o.base s v d r (kept.entries v d at) (gone v d at)) in
    let below : unstored o.base s r ≤ length s.entries = first_le (will_store o.base s r) s.entries 0 in
    let here : unstored o.base s r ≡ length s.entries = omega (arith, above, below) in
    ap (λ n. slice_index (records_before o.base s n) r) (here ∙ sym (length-map s.entries made))
    ∙ ap (λ (calls : List Made). slice_index (end o.base.procs calls o.base.records) r) (take-length (entered s))

-- where each call is gone and no turn is open, no claim is open
finished_counter : (o : Opening) (s : State) (r : ℕ) → IsKept o s → s.turn ≡ None → ((t : ℕ) (e : Entered) → slice_get s.entries t ≡ Some e → is_gone e.status ≡ true) → counter s r ≡ 0
finished_counter o s r kept closed gone =
    let none : flat_map open_of s.entries ≡ [] =
    ap (flat_map open_of) (sym (take-length s.entries))
    ∙ none_open s.entries (length s.entries) (λ v e low at. drop_none e.releases e.call.claims ((kept.entries v e at).gone (gone v e at))) in
    ap (λ (x : Option Turn). pair_word_of (claims_on r (flat_map open_of s.entries ++ requested_of x))) closed
    ∙ ap (λ (xs : List Claim). pair_word_of (claims_on r (xs ++ []))) none

-- and so the machine is at its end
pub at_end : (o : Opening) (s : State) → IsReached o s → s.turn ≡ None → ((t : ℕ) (e : Entered) → slice_get s.entries t ≡ Some e → is_gone e.status ≡ true) → IsAtEnd o.base s
at_end o s reached closed gone = record {
  closed = closed;
  gone = λ k d within. gone k _ (slice_get-get_or s.entries k d within);
  values = λ r. finished_value o s r (kept_reached o s reached) gone;
  counters = λ r. finished_counter o s r (kept_reached o s reached) closed gone;
}

pub finished_reached : FinishedMachinesHaveTheSerialEnd
finished_reached o s reached closed none_wait none_run =
    (gone, λ r. (finished_value o s r (kept_reached o s reached) gone, finished_counter o s r (kept_reached o s reached) closed gone))
  where
    gone : (t : ℕ) (e : Entered) → slice_get s.entries t ≡ Some e → is_gone e.status ≡ true
    gone t e at =
        left_is_gone e.status (none_counted (λ (d : Entered). is_waiting d.status) s.entries t e none_wait at)
        (none_counted (λ (d : Entered). is_running d.status) s.entries t e none_run at)
