-- A waiting call begins to run: the front of the queue, or the one that the contention analysis finds.
use Rattle.std.proofs.Common.{◌≡◌, ℕ, true, false, Bool, refl, sym, ap, ◌∙◌, subst, List, map, slice_get, Option, Some, None, is_some, Ok}
use Rattle.vll_core.proofs.Common.{slice_get-map, option_map, Event, Inside, TurnOpen, Idle, Run, Execution, Entry, Status, Running, Waiting, scan, is_waiting, Entered, State, Outcome, refuse_if, or_refuse, front, with_entry, with_status, step, by_event, requested_by, released_by, stored_by, QueueEntry, Queued, statuses, front_among, started_if, started, analysed, found_by, opening_of, turn_of, shown, IsMachine, made_of, Shown, after}
use Rattle.vll_core.specs.declared.event.Event.TheVariants as event
use Rattle.vll_core.specs.Machine.{scanned as scanned_entry}
use Rattle.vll_core.proofs.Events.{front_is}
use Rattle.vll_core.proofs.Picked.{picked_is}
use Rattle.vll_core.proofs.QueueLaws.{machine_front}
use Rattle.vll_core.proofs.MachineState.{shown_at, entry_shown, map_shown, statuses_shown, entry_changed, length_changed, made_changed, ready_same, at_work_same, replied_changed, queued_started}
use Rattle.vll_core.proofs.MachineSteps.{Refuses, Takes, refused_stays, taken_shown, taken_reached, taken_words}

-- ---- an event that finds a waiting ticket, or none

-- a ticket that waits: its entry of the queue, and its execution
pub record Waits {H : Type 0} (a : Inside H) (t : ℕ) : Type 0 where
  pub entry : QueueEntry
  pub execution : Execution
  pub at : slice_get a.queue.entries t ≡ Some entry
  pub has : slice_get a.execution.items t ≡ Some execution
  pub waits : entry.status ≡ Waiting

-- the ticket, if there is one, waits and begins to run by the event, which requests, releases and stores nothing
pub record Wakes {H : Type 0} (places : H → ℕ → ℕ) (a : Inside H) (event : Event) (found : Option ℕ) : Type 0 where
  pub is : step (opening_of places (shown a)) (shown a).state event ≡ or_refuse found Idle (λ (t : ℕ). Ok (Run t, with_status (shown a).state t Running))
  pub waits : (t : ℕ) → found ≡ Some t → Waits a t
  pub asks : requested_by (shown a).state (by_event event) ≡ None
  pub frees : released_by (shown a).state (by_event event) ≡ None
  pub stores : stored_by (shown a).state (by_event event) ≡ None

-- the fields of a machine once a call runs
abbrev pub run_at : {H : Type 0} → Inside H → ℕ → Inside H
run_at a t = record a { queue = started a.queue t }

pub refused_wake : {H : Type 0} {places : H → ℕ → ℕ} (a : Inside H) (e : Event) (found : Option ℕ) → Wakes places a e found → found ≡ None → Refuses places a e Idle
refused_wake a e found wakes none = record {
  is = wakes.is ∙ ap (λ (x : Option ℕ). or_refuse x Idle (λ (t : ℕ). Ok (Run t, with_status (shown a).state t Running))) none;
}

pub taken_wake : {H : Type 0} {places : H → ℕ → ℕ} (a : Inside H) (e : Event) (found : Option ℕ) (t : ℕ) → Wakes places a e found → found ≡ Some t → Takes places a (run_at a t) e (Run t)
taken_wake {H} {places} a e found t wakes some =
    let w : Waits a t = wakes.waits t some in
    let s : State = (shown a).state in
    record {
      fixed = refl;
      is =
          wakes.is
          ∙ (ap (λ (x : Option ℕ). or_refuse x Idle (λ (t : ℕ). Ok (Run t, with_status s t Running))) some
          ∙ (ap (λ (o : Option Entered). let out : Outcome = Ok (Run t, elim o [ None ↦ s | Some e ↦ with_entry s t (record e { status = Running }) ]) in out)
          (entry_shown a.queue.entries a.execution.items t w.entry w.execution w.at w.has)
          ∙ ap (λ (es : List Entered). let out : Outcome = Ok (Run t, record s { entries = es }) in out)
          (sym (entry_changed a.queue.entries a.execution.items t w.entry w.execution (λ e. record e { status = Running }) w.at w.has))));
    }

pub core_wake : {H : Type 0} {places : H → ℕ → ℕ} (a : Inside H) (e : Event) (found : Option ℕ) (t : ℕ) → IsMachine places a → Wakes places a e found → found ≡ Some t
    → IsMachine places (run_at a t)
core_wake {H} {places} a e found t core wakes some =
    let b : Inside H = run_at a t in
    let w : Waits a t = wakes.waits t some in
    let takes : Takes places a b e (Run t) = taken_wake a e found t wakes some in
    let calls : made_of b.queue.entries ≡ made_of a.queue.entries = made_changed a.queue.entries t (λ e. record e { status = Running }) (λ e. refl) in
    let waiting : slice_get (statuses a.queue) t ≡ Some Waiting =
    slice_get-map (λ (e : QueueEntry). e.status) a.queue.entries t
    ∙ (ap (λ (o : Option QueueEntry). option_map (λ (e : QueueEntry). e.status) o) w.at ∙ ap (λ (x : Status). Some x) w.waits) in
    assumption (
      taken_reached a b e (Run t) takes core.reached,
      taken_words a b e (Run t) takes core.reached wakes.asks wakes.frees wakes.stores core.words,
      queued_started a.queue t waiting core.queue,
      core.works ∙ sym (length_changed a.queue.entries t (λ e. record e { status = Running })),
      ready_same a.library.value a.queue.entries b.queue.entries (sym calls) core.entries_ready,
      at_work_same a.library.value a.opening.value.items a.queue.entries b.queue.entries a.execution.items (sym calls) core.at_work,
      replied_changed a.queue.entries a.execution.items t (λ e. record e { status = Running }) (λ e w at has gone. absurd (cc gone)) core.replied,
    )

-- the queue after it, where a ticket is found
pub some_woken : {H : Type 0} (q p : Queued H) (found : Option ℕ) (t : ℕ) → found ≡ Some t → p ≡ started_if q found → p ≡ started q t
some_woken q p found t some new = new ∙ ap (started_if q) some

-- and where none is
pub none_woken : {H : Type 0} (q p : Queued H) (found : Option ℕ) → found ≡ None → p ≡ started_if q found → p ≡ q
none_woken q p found none new = new ∙ ap (started_if q) none

pub core_woken : {H : Type 0} {places : H → ℕ → ℕ} (a : Inside H) (e : Event) (q : Queued H) (found : Option ℕ) → IsMachine places a → Wakes places a e found → q ≡ started_if a.queue found
    → IsMachine places (record a { queue = q })
core_woken {H} {places} a e q None core wakes new =
    subst (λ (p : Queued H). IsMachine places (record a { queue = p })) (sym (none_woken a.queue q None refl new)) core
core_woken {H} {places} a e q (Some t) core wakes new =
    subst (λ (p : Queued H). IsMachine places (record a { queue = p })) (sym (some_woken a.queue q (Some t) t refl new)) (core_wake a e (Some t) t core wakes refl)

-- what is shown of it
pub woken_shown : {H : Type 0} {places : H → ℕ → ℕ} (a : Inside H) (s : Shown H) (e : Event) (q : Queued H) (found : Option ℕ) → shown a ≡ s → Wakes places a e found → q ≡ started_if a.queue found
    → shown (record a { queue = q }) ≡ after s (step (opening_of places s) s.state e)
woken_shown {H} a s e q None view wakes new =
    ap (λ (p : Queued H). shown (record a { queue = p })) new ∙ (view ∙ refused_stays a s e Idle view (refused_wake a e None wakes refl))
woken_shown {H} a s e q (Some t) view wakes new =
    ap (λ (p : Queued H). shown (record a { queue = p })) new ∙ taken_shown a (run_at a t) s e (Run t) view (taken_wake a e (Some t) t wakes refl)

only_waiting : (x : Status) → is_waiting x ≡ true → x ≡ Waiting
only_waiting Waiting waits = refl
only_waiting other waits = absurd (cc waits)

-- a ticket of which a waiting entry is shown waits
waits_at : {H : Type 0} (a : Inside H) (t : ℕ) (e : Entered) → slice_get (shown a).state.entries t ≡ Some e → is_waiting e.status ≡ true → Waits a t
waits_at a t e at waits =
    let there = shown_at a.queue.entries a.execution.items t e at in
    record {
      entry = there.entry;
      execution = there.execution;
      at = there.at;
      has = there.has;
      waits = ap (λ (x : Entered). x.status) (sym there.is) ∙ only_waiting e.status waits;
    }

-- the call of a ticket runs
abbrev run_by : State → ℕ → Outcome
run_by s t = Ok (Run t, with_status s t Running)

-- where no turn is open, the machine goes by the ticket that it finds
by_ticket : (s : State) (found same : Option ℕ) → is_some s.turn ≡ false → found ≡ same
    → refuse_if (is_some s.turn) TurnOpen (or_refuse found Idle (run_by s)) ≡ or_refuse same Idle (run_by s)
by_ticket s found same closed is =
    ap (λ (b : Bool). refuse_if b TurnOpen (or_refuse found Idle (run_by s))) closed
    ∙ ap (λ (x : Option ℕ). or_refuse x Idle (run_by s)) is

-- ---- the front

-- the plain machine's front is that of the queue
front_of : {H : Type 0} {places : H → ℕ → ℕ} (a : Inside H) → IsMachine places a → front (shown a).state ≡ front_among (statuses a.queue)
front_of a core =
    machine_front (shown a).state ∙ ap front_among (statuses_shown a.queue.entries a.execution.items core.works)

pub wakes_front : {H : Type 0} {places : H → ℕ → ℕ} (a : Inside H) → IsMachine places a → is_some (turn_of a.turn) ≡ false → Wakes places a event.Front (front_among (statuses a.queue))
wakes_front a core closed = record {
  is = by_ticket (shown a).state (front (shown a).state) (front_among (statuses a.queue)) closed (front_of a core);
  waits = λ t found. let f = front_is (shown a).state t (front_of a core ∙ found) in waits_at a t f.entry f.at f.waits;
  asks = refl;
  frees = refl;
  stores = refl;
}

-- ---- the ticket that the contention analysis finds

-- the plain machine finds the queue's
scan_of : {H : Type 0} {places : H → ℕ → ℕ} (a : Inside H) → IsMachine places a
    → scan (places a.queue.hash) a.queue.bits (map scanned_entry (shown a).state.entries) ≡ found_by places a.queue
scan_of {H} {places} a core =
    ap (λ (es : List Entry). scan (places a.queue.hash) a.queue.bits es) (map_shown analysed scanned_entry a.queue.entries a.execution.items (λ e w. refl) core.works)

pub wakes_scan : {H : Type 0} {places : H → ℕ → ℕ} (a : Inside H) → IsMachine places a → is_some (turn_of a.turn) ≡ false → Wakes places a event.Scan (found_by places a.queue)
wakes_scan {H} {places} a core closed = record {
  is = by_ticket (shown a).state (scan (places a.queue.hash) a.queue.bits (map scanned_entry (shown a).state.entries)) (found_by places a.queue) closed (scan_of a core);
  waits = λ t found. let p = picked_is (places a.queue.hash) a.queue.bits (shown a).state t (scan_of a core ∙ found) in waits_at a t p.entry p.at p.waits;
  asks = refl;
  frees = refl;
  stores = refl;
}
