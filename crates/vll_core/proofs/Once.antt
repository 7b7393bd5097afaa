-- A ticket starts once: what is gone stays, and what has started does not wait again.
use Rattle.std.proofs.Common.{◌≡◌, ◌≢◌, ℕ, Bool, true, false, refl, sym, ap, ◌∙◌, subst, ⊎_elim, slice_get, slice_set, Option, Some, None, if◌then◌else◌}
use Rattle.vll_core.proofs.Common.{cases_eq, same_Some, Status, Running, Waiting, Gone, is_waiting, is_running, is_gone, Opening, Entered, State, if_running, with_entry, Move, Leads, stays, goes, GoneTicketsStay, StartedTicketsDoNotWait, TicketsStartOnce}
use Rattle.vll_core.proofs.Places.{get_set, get_set_other, get_pushed}
use Rattle.vll_core.proofs.Changes.{Change, change_of, admitted, fronted, picked, woken, loaded, stored, released, finished}

-- an entry goes on to another: one that is gone stays, and one that has started does not wait
record GoesOn (e f : Entered) : Type 0 where
  gone : is_gone e.status ≡ true → f ≡ e
  started : is_waiting e.status ≡ false → is_waiting f.status ≡ false

-- the entry of a ticket goes on
record IsGoneOn (s : State) (t : ℕ) (e : Entered) : Type 0 where
  entry : Entered
  at : slice_get s.entries t ≡ Some entry
  on : GoesOn e entry

same_on : (s : State) (t : ℕ) (e : Entered) → slice_get s.entries t ≡ Some e → IsGoneOn s t e
same_on s t e at = record { entry = e; at = at; on = record { gone = λ h. refl; started = λ h. h } }

-- another entry is put for a ticket
put_on : (s : State) (u t : ℕ) (d f e : Entered) → slice_get s.entries u ≡ Some d → GoesOn d f → slice_get s.entries t ≡ Some e → IsGoneOn (with_entry s u f) t e
put_on s u t d f e here on at = ⊎_elim
    (λ (same : t ≡ u).
    let twins : d ≡ e = same_Some d e (sym here ∙ ap (slice_get s.entries) (sym same) ∙ at) in
    record {
      entry = f;
      at = ap (slice_get (slice_set s.entries u f)) same ∙ get_set s.entries u d f here;
      on = subst (λ (x : Entered). GoesOn x f) twins on;
    })
    (λ (apart : t ≢ u). record { entry = e; at = get_set_other s.entries u f t apart ∙ at; on = record { gone = λ h. refl; started = λ h. h } })
    (cases_eq t u)

-- a ticket that waits starts
starting : (d : Entered) → is_waiting d.status ≡ true → GoesOn d (record d { status = Running })
starting d waits = record { gone = λ h. absurd (apart d.status waits h); started = λ h. refl }
  where
    apart : (x : Status) → is_waiting x ≡ true → is_gone x ≡ true → ⊥
    apart Waiting h k = cc k
    apart other h k = cc h

-- a ticket that runs makes a step
running_on : (d f : Entered) → is_running d.status ≡ true → is_waiting f.status ≡ false → GoesOn d f
running_on d f runs not_waiting = record { gone = λ h. absurd (apart d.status runs h); started = λ h. not_waiting }
  where
    apart : (x : Status) → is_running x ≡ true → is_gone x ≡ true → ⊥
    apart Running h k = cc k
    apart other h k = cc h

not_waiting : (x : Status) → is_running x ≡ true → is_waiting x ≡ false
not_waiting Waiting h = absurd (cc h)
not_waiting other h = refl

change_on : (o : Opening) (s : State) (m : Move) (next : State) (t : ℕ) (e : Entered) → Change o s m next → slice_get s.entries t ≡ Some e → IsGoneOn next t e
change_on o s m next t e (admitted turn status is all left free) here = same_on _ t e (get_pushed s.entries _ t e here)
change_on o s m next t e (fronted u f) here = put_on s u t f.entry _ e f.at (starting f.entry f.waits) here
change_on o s m next t e (picked u p) here = put_on s u t p.entry _ e p.at (starting p.entry p.waits) here
change_on o s m next t e (woken u d at waits clear) here = put_on s u t d _ e at (starting d waits) here
change_on o s m next t e (loaded u d c at runs left) here = put_on s u t d _ e at (running_on d _ runs (not_waiting d.status runs)) here
change_on o s m next t e (stored u d at runs all left) here = put_on s u t d _ e at (running_on d _ runs (not_waiting d.status runs)) here
change_on o s m next t e (released u d c at runs all left) here = put_on s u t d _ e at (running_on d _ runs (not_waiting d.status runs)) here
change_on o s m next t e (finished u d at runs all) here = put_on s u t d _ e at (running_on d _ runs refl) here
change_on o s m next t e other here = same_on _ t e here

-- what is gone stays
pub gone_stays : GoneTicketsStay
gone_stays o s next m seen t e is at gone =
    let on = change_on o s m next t e (change_of o s m (seen, next) is) at in
    on.at ∙ ap Some (on.on.gone gone)

-- what has started does not wait
pub started_on : StartedTicketsDoNotWait
started_on o s next m seen t e is at started =
    let on = change_on o s m next t e (change_of o s m (seen, next) is) at in
    (on.entry, on.at, on.on.started started)

-- what has started does not wait after any number of moves
led_on : (o : Opening) (s later : State) (t : ℕ) (e : Entered) → Leads o s later → slice_get s.entries t ≡ Some e → is_waiting e.status ≡ false
    → (f : Entered) × (slice_get later.entries t ≡ Some f) × (is_waiting f.status ≡ false)
led_on o s later t e stays at started = (e, at, started)
led_on o s later t e (goes between m seen next leads is) at started =
    let there = led_on o s between t e leads at started in
    started_on o between later m seen t there.0 is there.1 there.2

-- a ticket that runs has an entry
entry_of_running : (x : Option Entered) → if_running x ≢ None → (e : Entered) × (x ≡ Some e) × (is_running e.status ≡ true)
entry_of_running None runs = absurd (runs refl)
entry_of_running (Some e) runs = step (is_running e.status) refl runs
  where
    step : (b : Bool) → is_running e.status ≡ b → (if b then Some e else None) ≢ None → (d : Entered) × (Some e ≡ Some d) × (is_running d.status ≡ true)
    step true is k = (e, refl, is)
    step false is k = absurd (k refl)

-- an entry that neither waits nor runs is gone
gone_entry : (f : Entered) → is_waiting f.status ≡ false → if_running (Some f) ≡ None → is_gone f.status ≡ true
gone_entry f waits still = by_status f.status refl
  where
    by_status : (x : Status) → f.status ≡ x → is_gone f.status ≡ true
    by_status Running is = absurd (cc (sym (ap (λ (x : Status). if is_running x then Some f else None) is) ∙ still))
    by_status Waiting is = absurd (cc (sym waits ∙ ap is_waiting is))
    by_status Gone is = ap is_gone is

gone_still : (f : Entered) → is_gone f.status ≡ true → if_running (Some f) ≡ None
gone_still f gone = by_status f.status refl
  where
    by_status : (x : Status) → f.status ≡ x → (if is_running f.status then Some f else None) ≡ None
    by_status Gone is = ap (λ (x : Status). if is_running x then Some f else None) is
    by_status other is = absurd (cc (sym (ap is_gone is) ∙ gone))

-- a ticket that has run is not started again
pub once_started : TicketsStartOnce
once_started o s later next m seen t runs leads is still =
    let was = entry_of_running (slice_get s.entries t) runs in
    let now = led_on o s later t was.0 leads was.1 (not_waiting was.0.status was.2) in
    let gone : is_gone now.0.status ≡ true = gone_entry now.0 now.2 (sym (ap if_running now.1) ∙ still) in
    ap if_running (gone_stays o later next m seen t now.0 is now.1 gone) ∙ gone_still now.0 gone
