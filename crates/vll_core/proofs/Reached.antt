-- Every reached state keeps what reached states keep.
use Rattle.std.proofs.Common.{◌≡◌, ℕ, false, refl, sym, arith, ◌≤◌, List, [], ◌∷◌, length, ap, ◌∙◌, slice_get, None, Ok, Err}
use Rattle.vll_core.proofs.Common.{same_Some, step, Outcome, opened, run, state_after, Entered, State, records_before, value, is_clear, Opening, before, Claim, AreProper, Move, by_event, IsLawful, IsReached, begun, moved, is_waiting, is_running, Loaded, Seen, Event, FrontTicketIsClear, ScanTicketIsClear, OpenTurnsHaveRoom, WaitingStaysWithinTheCap, EventListsReach, SerialStatesStay, RunningTicketsAreClear, LoadsSeeTheSerialState}
use Rattle.vll_core.proofs.SerialRun.{records_same, records_pushed}
use Rattle.vll_core.proofs.Sound.{load_sees}
use Rattle.vll_core.proofs.Kept.{IsKept, sound_of}
use Rattle.vll_core.proofs.Events.{front_is, running_not_waiting, kept_load, kept_store, kept_release, kept_finish, kept_run, clear_above_gone, kept_find, kept_enter, proper_next, proper_entering, proper_used, kept_request, kept_admit}
use Rattle.vll_core.proofs.Picked.{clear_picked, picked_is}
use Rattle.vll_core.proofs.Waits.{capped_reached}
use Rattle.vll_core.proofs.Changes.{Change, load_is, change_of, sourced, entered_by, handed, requested, admitted, fronted, picked, woken, loaded, stored, released, finished}

kept_opened : (o : Opening) (scripts : List _) → AreProper o.base scripts → IsKept o (opened scripts)
kept_opened o scripts proper = record {
  entries = λ t e at. absurd (cc at);
  clear = λ t e at busy. absurd (cc at);
  turn = λ turn is. absurd (cc is);
  scripts = proper;
  room = omega arith;
}

pub kept_change : (o : Opening) (s : State) (m : Move) (next : State) → IsKept o s → IsLawful o m → Change o s m next → IsKept o next
kept_change o s m next kept lawful (sourced client call r at from) = kept_find o s _ kept
kept_change o s m next kept lawful (entered_by client first call none at is room waits) =
    kept_enter o s client call _ _ kept (proper_entering o.base s client first call (proper_next o.base s client first kept.scripts at) is) (proper_used o.base s client kept.scripts) room
kept_change o s m next kept lawful (handed client call none room waits) = kept_enter o s client call _ _ kept lawful kept.scripts room
kept_change o s m next kept lawful (requested turn c is at) = kept_request o s turn c kept is at
kept_change o s m next kept lawful (admitted turn status is all here free) = kept_admit o s turn status kept is all here free
kept_change o s m next kept lawful (fronted t f) = kept_run o s t f.entry kept f.at (clear_above_gone o s t f.entry.call.claims kept f.gone)
kept_change o s m next kept lawful (picked t p) = kept_run o s t p.entry kept p.at (clear_picked o s t kept p)
kept_change o s m next kept lawful (woken t e at waits clear) = kept_run o s t e kept at clear
kept_change o s m next kept lawful (loaded t e c at runs left) = kept_load o s t e c kept at runs left
kept_change o s m next kept lawful (stored t e at runs all left) = kept_store o s t e kept at runs all left
kept_change o s m next kept lawful (released t e c at runs all left) = kept_release o s t e c kept at runs all left
kept_change o s m next kept lawful (finished t e at runs all) = kept_finish o s t e kept at runs all

pub kept_reached : (o : Opening) (s : State) → IsReached o s → IsKept o s
kept_reached o s (begun scripts proper) = kept_opened o scripts proper
kept_reached o s (moved before m seen next reached lawful is) = kept_change o before m s (kept_reached o before reached) lawful (change_of o before m (seen, s) is)

-- a list of events goes on from a reached state to a reached state
run_reached : (o : Opening) (s : State) (events : List Event) → IsReached o s → IsReached o (run o s events)
run_reached o s [] reached = reached
run_reached o s (e ∷ es) reached = run_reached o (state_after s (step o s e)) es (by_outcome (step o s e) refl)
  where
    by_outcome : (out : Outcome) → step o s e ≡ out → IsReached o (state_after s out)
    by_outcome (Ok seen) is = moved s (by_event e) seen.0 seen.1 reached tt is
    by_outcome (Err why) is = reached

pub lists_reach : EventListsReach
lists_reach o scripts events proper = run_reached o (opened scripts) events (begun scripts proper)

-- each ticket that is running or gone is clear
pub clear_reached : RunningTicketsAreClear
clear_reached o s t e reached at busy = (kept_reached o s reached).clear t e at busy

-- the front ticket waits and is clear
pub front_reached : FrontTicketIsClear
front_reached o s t e reached is at =
    let f = front_is s t is in
    let same : f.entry ≡ e = same_Some f.entry e (sym f.at ∙ at) in
    (ap (λ (x : Entered). is_waiting x.status) (sym same) ∙ f.waits, clear_above_gone o s t e.call.claims (kept_reached o s reached) f.gone)

-- the ticket that the scan picks waits and is clear
pub scan_reached : ScanTicketIsClear
scan_reached o place bits s t e reached is at =
    let p = picked_is place bits s t is in
    let same : p.entry ≡ e = same_Some p.entry e (sym p.at ∙ at) in (
      ap (λ (x : Entered). is_waiting x.status) (sym same) ∙ p.waits,
      ap (λ (x : Entered). is_clear s t x.call.claims) (sym same) ∙ clear_picked o s t (kept_reached o s reached) p,
    )

-- while a turn is open there is room for its call, and for it to wait
pub turn_has_room : OpenTurnsHaveRoom
turn_has_room o s turn reached is = (((kept_reached o s reached).turn turn is).room, (capped_reached o s reached).turn turn is)

pub waiting_within : WaitingStaysWithinTheCap
waiting_within o s reached = (capped_reached o s reached).within

loaded_same : (v w : ℕ) (a b : State) → ◌≡◌ {A = Seen × State} (Loaded v, a) (Loaded w, b) → v ≡ w
loaded_same v w a b h = of_seen (ap (λ (x : Seen × State). x.0) h)
  where
    of_seen : ◌≡◌ {A = Seen} (Loaded v) (Loaded w) → v ≡ w
    of_seen k = cc k

-- a load gives the serial state
pub load_reached : LoadsSeeTheSerialState
load_reached o s next t v e c reached at left is =
    let l = load_is o s t (Loaded v, next) is in
    let kept = kept_reached o s reached in
    let same : l.entry ≡ e = same_Some l.entry e (sym l.at ∙ at) in
    let claim : l.claim ≡ c = same_Some l.claim c (sym l.next ∙ (ap (λ (x : Entered). slice_get x.call.claims x.loads) same ∙ left)) in
    let busy : is_waiting e.status ≡ false = running_not_waiting e.status (ap (λ (x : Entered). is_running x.status) (sym same) ∙ l.runs) in
    loaded_same v (value o.base s l.claim.id) next _ l.seen
    ∙ (ap (λ (x : Claim). value o.base s x.id) claim ∙ load_sees o.base s t e c (sound_of o s kept) at busy left)

-- the records before a ticket stay
serial_change : (o : Opening) (s : State) (m : Move) (next : State) (t : ℕ) → Change o s m next → t ≤ length s.entries → records_before o.base next t ≡ records_before o.base s t
serial_change o s m next t (admitted turn status is all here free) within = records_pushed o.base s _ None t within
serial_change o s m next t (fronted u f) within = records_same o.base s u f.entry _ t f.at refl
serial_change o s m next t (picked u p) within = records_same o.base s u p.entry _ t p.at refl
serial_change o s m next t (woken u e at waits clear) within = records_same o.base s u e _ t at refl
serial_change o s m next t (loaded u e c at runs left) within = records_same o.base s u e _ t at refl
serial_change o s m next t (stored u e at runs all left) within = records_same o.base s u e _ t at refl
serial_change o s m next t (released u e c at runs all left) within = records_same o.base s u e _ t at refl
serial_change o s m next t (finished u e at runs all) within = records_same o.base s u e _ t at refl
serial_change o s m next t other within = refl

pub serial_stays : SerialStatesStay
serial_stays o s next m seen t is within = serial_change o s m next t (change_of o s m (seen, next) is) within
