-- The end of a running call of a machine: what it finds, and what the machine is after it.
use Rattle.std.proofs.Common.{◌≡◌, ℕ, ◌||◌, Bool, true, false, not, nat_lt, refl, sym, ap, ◌∙◌, arith, ⊎_elim, List, length, slice_get, Option, Some, is_some, Ok}
use Rattle.vll_core.proofs.Common.{option_map, or_right, nat_tests, same_Some, slice_get-map, slice_get_cases, Claim, Call, Reply, apply, Inside, TurnOpen, NotRunning, OutOfStep, Replied, Status, Running, Gone, Execution, is_running, Entered, Opening, State, reply_at, Outcome, step, refuse_if, or_refuse, running, has_stored, with_entry, QueueEntry, Queued, statuses, finished, opening_of, entered_of, shown, IsMachine}
use Rattle.vll_core.specs.declared.event.Event.TheVariants as event
use Rattle.vll_core.proofs.MachineState.{entry_changed, made_changed, ready_same, at_work_same, replied_changed, queued_finished, length_changed}
use Rattle.vll_core.proofs.MachineSteps.{Refuses, Takes, taken_reached, taken_words}
use Rattle.vll_core.proofs.RunningCalls.{RunsAt, now_at, now_shown, stored_by_work, stored_shown, replies}

-- ---- the plain machine

-- the call of an entry has more to do before it ends
abbrev cannot_end : Opening → State → ℕ → Entered → Bool
cannot_end o s t e = not (has_stored o.base s t e) || nat_lt e.releases (length e.call.claims)

-- where no turn is open, the end of a running call goes by what it has left to do
finish_by : (o : Opening) (s : State) (t : ℕ) (e : Entered) (b : Bool) → is_some s.turn ≡ false → running s t ≡ Some e → cannot_end o s t e ≡ b
    → step o s (event.Finish t) ≡ refuse_if b OutOfStep (Ok (Replied (reply_at o.base s t e), with_entry s t (record e { status = Gone })))
finish_by o s t e b closed runs is =
    ap (λ (x : Bool). refuse_if x TurnOpen (or_refuse (running s t) NotRunning (λ d. ends d))) closed
    ∙ (ap (λ (x : Option Entered). or_refuse x NotRunning (λ d. ends d)) runs
    ∙ ap (λ (x : Bool). refuse_if x OutOfStep (Ok (Replied (reply_at o.base s t e), with_entry s t (record e { status = Gone })))) is)
  where
    ends : Entered → Outcome
    ends d = refuse_if (not (has_stored o.base s t d) || nat_lt d.releases (length d.call.claims)) OutOfStep (Ok (Replied (reply_at o.base s t d), with_entry s t (record d { status = Gone })))

-- ---- the machine that is kept

-- a place has an item exactly where it lies within the list
item_within : {X : Type 0} (xs : List X) (n : ℕ) → is_some (slice_get xs n) ≡ nat_lt n (length xs)
item_within xs n =
    ⊎_elim
    (λ p. let within : nat_lt n (length xs) ≡ true = grind (arith, nat_tests, p.1) in ap (λ (o : Option _). is_some o) p.2 ∙ sym within)
    (λ p. let past : nat_lt n (length xs) ≡ false = grind (arith, nat_tests, p.0) in ap (λ (o : Option _). is_some o) p.1 ∙ sym past)
    (slice_get_cases xs n).1

releases_left : {H : Type 0} (a : Inside H) (t : ℕ) (call : Call) (r : RunsAt a t call) (w : Execution) (o : Option Claim) (b : Bool) → w ≡ r.execution → o ≡ slice_get call.claims w.releases → b ≡ is_some o
    → nat_lt (entered_of r.entry r.execution).releases (length (entered_of r.entry r.execution).call.claims) ≡ b
releases_left a t call r w o b is next told =
    ap (λ (x : Call). nat_lt r.execution.releases (length x.claims)) r.own
    ∙ (ap (λ (x : Execution). nat_lt x.releases (length call.claims)) (sym is)
    ∙ (sym (item_within call.claims w.releases) ∙ (ap (λ (x : Option Claim). is_some x) (sym next) ∙ sym told)))

-- a call with stores left, or with claims left, does not end
pub refused_stores : {H : Type 0} {places : H → ℕ → ℕ} (a : Inside H) (t : ℕ) (call : Call) (r : RunsAt a t call) (w : Execution) → IsMachine places a → is_some (shown a).state.turn ≡ false → w ≡ r.execution
    → stored_by_work call (apply a.library.value.procs call (now_at a t)) w ≡ false → Refuses places a (event.Finish t) OutOfStep
refused_stores {H} {places} a t call r w core closed is left = record {
  is =
      finish_by (opening_of places (shown a)) (shown a).state t (entered_of r.entry r.execution) true closed r.is
      (ap (λ (b : Bool). not b || nat_lt (entered_of r.entry r.execution).releases (length (entered_of r.entry r.execution).call.claims)) (stored_shown a t call r w core.works is ∙ left));
}

pub refused_releases : {H : Type 0} {places : H → ℕ → ℕ} (a : Inside H) (t : ℕ) (call : Call) (r : RunsAt a t call) (w : Execution) (o : Option Claim) (b : Bool) → is_some (shown a).state.turn ≡ false → w ≡ r.execution
    → o ≡ slice_get call.claims w.releases → b ≡ is_some o → b ≡ true → Refuses places a (event.Finish t) OutOfStep
refused_releases {H} {places} a t call r w o b closed is next told left = record {
  is =
      finish_by (opening_of places (shown a)) (shown a).state t (entered_of r.entry r.execution) true closed r.is
      (or_right _ _ (releases_left a t call r w o b is next told ∙ left));
}

-- a running call that has nothing left to do
pub record Ends {H : Type 0} (a : Inside H) (t : ℕ) (call : Call) (w : Execution) : Type 0 where
  pub runs : RunsAt a t call
  pub execution : w ≡ runs.execution
  pub closed : is_some (shown a).state.turn ≡ false
  pub stored : stored_by_work call (apply a.library.value.procs call (now_at a t)) w ≡ true
  pub released : nat_lt (entered_of runs.entry runs.execution).releases (length (entered_of runs.entry runs.execution).call.claims) ≡ false

pub ends_of : {H : Type 0} (a : Inside H) (t : ℕ) (call : Call) (r : RunsAt a t call) (w : Execution) (o : Option Claim) (b : Bool) → is_some (shown a).state.turn ≡ false → w ≡ r.execution
    → stored_by_work call (apply a.library.value.procs call (now_at a t)) w ≡ true → o ≡ slice_get call.claims w.releases → b ≡ is_some o → b ≡ false → Ends a t call w
ends_of a t call r w o b closed is stored next told none =
    record { runs = r; execution = is; closed = closed; stored = stored; released = releases_left a t call r w o b is next told ∙ none }

-- its status
pub status_runs : {H : Type 0} (a : Inside H) (t : ℕ) (call : Call) → RunsAt a t call → slice_get (statuses a.queue) t ≡ Some Running
status_runs a t call r =
    slice_get-map (λ (e : QueueEntry). e.status) a.queue.entries t
    ∙ (ap (λ (o : Option QueueEntry). option_map (λ (e : QueueEntry). e.status) o) r.at ∙ ap (λ (s : Status). Some s) (only r.entry.status r.runs))
  where
    only : (s : Status) → is_running s ≡ true → s ≡ Running
    only Running runs = refl
    only other runs = absurd (cc runs)

-- its execution has the reply, and that is what the machine answers
pub reply_there : {H : Type 0} (a : Inside H) (t : ℕ) (call : Call) (w : Execution) → Ends a t call w → w.reply ≡ Some (apply a.library.value.procs call (now_at a t)).reply
reply_there a t call w e = replies a t call e.runs w e.execution e.stored

reply_shown : {H : Type 0} {places : H → ℕ → ℕ} (a : Inside H) (t : ℕ) (call : Call) (r : RunsAt a t call) → IsMachine places a
    → reply_at (shown a).base (shown a).state t (entered_of r.entry r.execution) ≡ (apply a.library.value.procs call (now_at a t)).reply
reply_shown a t call r core =
    ap (λ (records : List ℕ). (apply a.library.value.procs r.entry.line.call records).reply) (now_shown a t core.works)
    ∙ ap (λ (x : Call). (apply a.library.value.procs x (now_at a t)).reply) r.own

-- the machine with another queue, and that where a call is gone with its reply
abbrev pub with_queue : {H : Type 0} → Inside H → Queued H → Inside H
with_queue a q = record a { queue = q }

abbrev pub without : {H : Type 0} → Inside H → ℕ → Reply → Inside H
without a t reply = with_queue a (finished a.queue t reply)

pub taken_finish : {H : Type 0} {places : H → ℕ → ℕ} (a : Inside H) (t : ℕ) (call : Call) (w : Execution) (reply : Reply) → IsMachine places a → Ends a t call w → w.reply ≡ Some reply
    → Takes places a (without a t reply) (event.Finish t) (Replied reply)
taken_finish {H} {places} a t call w reply core e is =
    let r : RunsAt a t call = e.runs in
    let s : State = (shown a).state in
    let answer : reply_at (shown a).base s t (entered_of r.entry r.execution) ≡ reply = reply_shown a t call r core ∙ same_Some _ reply (sym (reply_there a t call w e) ∙ is) in
    let test : cannot_end (opening_of places (shown a)) s t (entered_of r.entry r.execution) ≡ false =
    ap (λ (b : Bool). not b || nat_lt (entered_of r.entry r.execution).releases (length (entered_of r.entry r.execution).call.claims)) (stored_shown a t call r w core.works e.execution ∙ e.stored)
    ∙ e.released in
    record {
      fixed = refl;
      is =
          finish_by (opening_of places (shown a)) s t (entered_of r.entry r.execution) false e.closed r.is test
          ∙ (ap (λ (x : Reply). let out : Outcome = Ok (Replied x, with_entry s t (record (entered_of r.entry r.execution) { status = Gone })) in out) answer
          ∙ ap (λ (es : List Entered). let out : Outcome = Ok (Replied reply, record s { entries = es }) in out)
          (sym (entry_changed a.queue.entries a.execution.items t r.entry r.execution (λ (d : QueueEntry). record { line = record d.line { reply = Some reply }; status = Gone }) r.at r.has)));
    }

pub core_finish : {H : Type 0} {places : H → ℕ → ℕ} (a : Inside H) (t : ℕ) (call : Call) (w : Execution) (reply : Reply) → IsMachine places a → Ends a t call w → w.reply ≡ Some reply → IsMachine places (without a t reply)
core_finish {H} {places} a t call w reply core e is =
    let b : Inside H = without a t reply in
    let r : RunsAt a t call = e.runs in
    let takes = taken_finish {places = places} a t call w reply core e is in
    let change : QueueEntry → QueueEntry = λ d. record { line = record d.line { reply = Some reply }; status = Gone } in
    let made = made_changed a.queue.entries t change (λ d. refl) in
    assumption (
      taken_reached a b (event.Finish t) _ takes core.reached,
      taken_words a b (event.Finish t) _ takes core.reached refl refl refl core.words,
      queued_finished a.queue t reply core.queue,
      core.works ∙ sym (length_changed a.queue.entries t change),
      ready_same a.library.value a.queue.entries _ (sym made) core.entries_ready,
      at_work_same a.library.value a.opening.value.items a.queue.entries _ a.execution.items (sym made) core.at_work,
      replied_changed a.queue.entries a.execution.items t change (λ d v at has gone. sym is ∙ ap (λ (x : Execution). x.reply) (e.execution ∙ same_Some r.execution v (sym r.has ∙ has))) core.replied,
    )
