-- A load of a running call of a machine: what it finds, and what the machine is after it.
use Rattle.std.proofs.Common.{◌≡◌, ℕ, ◌+◌, ◌<◌, true, refl, sym, ap, ◌∙◌, subst, arith, List, length, slice_get, slice_set, slice_index, slice_index_or, Option, Some, None, Ok, Err, length-set}
use Rattle.vll_core.proofs.Common.{with_item, get_or_default, same_Some, slice_get_within, Claim, value_word_of, Call, Inside, NotRunning, OutOfStep, Loaded, Execution, is_gone, is_running, Status, Gone, Entered, Opening, State, value, Outcome, step, or_refuse, running, with_entry, QueueEntry, opening_of, entered_of, shown, IsAtWork, IsMachine}
use Rattle.vll_core.specs.declared.event.Event.TheVariants as event
use Rattle.vll_core.proofs.Places.{all_at}
use Rattle.vll_core.proofs.Reached.{load_reached}
use Rattle.vll_core.proofs.MachineState.{entry_shown, work_put, at_work_put, replied_put}
use Rattle.vll_core.proofs.MachineSteps.{Refuses, Takes, taken_reached, taken_words}
use Rattle.vll_core.proofs.RunningCalls.{RunsAt, now_at, now_shown}

-- ---- the plain machine

-- a running call with a load left makes it
load_taken : (o : Opening) (s : State) (t : ℕ) (e : Entered) (c : Claim) → running s t ≡ Some e → slice_get e.call.claims e.loads ≡ Some c
    → step o s (event.Load t) ≡ Ok (Loaded (value o.base s c.id), with_entry s t (record e { loads = e.loads + 1 }))
load_taken o s t e c runs left =
    ap (λ (x : Option Entered). or_refuse x NotRunning (λ d. or_refuse (slice_get d.call.claims d.loads) OutOfStep (λ k. Ok (Loaded (value o.base s k.id), with_entry s t (record d { loads = d.loads + 1 }))))) runs
    ∙ ap (λ (x : Option Claim). or_refuse x OutOfStep (λ k. Ok (Loaded (value o.base s k.id), with_entry s t (record e { loads = e.loads + 1 })))) left

-- one without is refused
load_refused : (o : Opening) (s : State) (t : ℕ) (e : Entered) → running s t ≡ Some e → slice_get e.call.claims e.loads ≡ None
    → step o s (event.Load t) ≡ Err OutOfStep
load_refused o s t e runs none =
    ap (λ (x : Option Entered). or_refuse x NotRunning (λ d. or_refuse (slice_get d.call.claims d.loads) OutOfStep (λ k. Ok (Loaded (value o.base s k.id), with_entry s t (record d { loads = d.loads + 1 }))))) runs
    ∙ ap (λ (x : Option Claim). or_refuse x OutOfStep (λ k. Ok (Loaded (value o.base s k.id), with_entry s t (record e { loads = e.loads + 1 })))) none

-- ---- the machine that is kept

-- the claim that a running call loads next, by its execution
pub record LoadsNext {H : Type 0} (a : Inside H) (t : ℕ) (call : Call) (w : Execution) (c : Claim) : Type 0 where
  pub runs : RunsAt a t call
  pub execution : w ≡ runs.execution
  pub next : slice_get call.claims w.loads ≡ Some c

-- the same execution, read again
pub next_again : {H : Type 0} (a : Inside H) (t : ℕ) (call : Call) (w v : Execution) (c : Claim) (l : LoadsNext a t call w c) → v ≡ l.runs.execution → LoadsNext a t call v c
next_again a t call w v c l is = record {
  runs = l.runs;
  execution = is;
  next = ap (λ (x : Execution). slice_get call.claims x.loads) (is ∙ sym l.execution) ∙ l.next;
}

pub load_left : {H : Type 0} (a : Inside H) (t : ℕ) (call : Call) (w : Execution) (c : Claim) → LoadsNext a t call w c → w.loads < length call.claims
load_left a t call w c l = slice_get_within call.claims w.loads c l.next

entry_next : {H : Type 0} (a : Inside H) (t : ℕ) (call : Call) (r : RunsAt a t call) (w : Execution) (o : Option Claim) → w ≡ r.execution → slice_get call.claims w.loads ≡ o
    → slice_get (entered_of r.entry r.execution).call.claims (entered_of r.entry r.execution).loads ≡ o
entry_next a t call r w o is at =
    ap (λ (x : Call). slice_get x.claims r.execution.loads) r.own ∙ ap (λ (x : Execution). slice_get call.claims x.loads) (sym is) ∙ at

pub refused_load : {H : Type 0} {places : H → ℕ → ℕ} (a : Inside H) (t : ℕ) (call : Call) (r : RunsAt a t call) (w : Execution) → w ≡ r.execution → slice_get call.claims w.loads ≡ None → Refuses places a (event.Load t) OutOfStep
refused_load {H} {places} a t call r w is none = record {
  is = load_refused (opening_of places (shown a)) (shown a).state t (entered_of r.entry r.execution) r.is (entry_next a t call r w None is none);
}

-- the claim's record is there
pub value_there : {H : Type 0} {places : H → ℕ → ℕ} (a : Inside H) (t : ℕ) (call : Call) (w : Execution) (c : Claim) (place : ℕ) → IsMachine places a → LoadsNext a t call w c → place ≡ value_word_of c.id → place < length a.words.items
value_there a t call w c place kept l is =
    let within : c.id < a.library.value.records = all_at (λ (d : Claim). d.id < a.library.value.records) call.claims w.loads c l.runs.calls.within l.next in
    omega (arith, kept.words.long, kept.records, within, is)

-- the word that is read is the record's value
pub read_value : {H : Type 0} {places : H → ℕ → ℕ} (a : Inside H) (t : ℕ) (call : Call) (w : Execution) (c : Claim) (place v : ℕ) → IsMachine places a → LoadsNext a t call w c → place ≡ value_word_of c.id → v ≡ slice_index_or a.words.items place v
    → v ≡ value (shown a).base (shown a).state c.id
read_value a t call w c place v kept l is read =
    let within : c.id < a.library.value.records = all_at (λ (d : Claim). d.id < a.library.value.records) call.claims w.loads c l.runs.calls.within l.next in
    read ∙ get_or_default a.words.items place v 0 (value_there a t call w c place kept l is)
    ∙ ap (λ (i : ℕ). slice_index a.words.items i) is
    ∙ kept.words.values c.id (omega (arith, kept.records, within))

-- and that is the record before the ticket
pub sees_serial : {H : Type 0} {places : H → ℕ → ℕ} (a : Inside H) (t : ℕ) (call : Call) (w : Execution) (c : Claim) → IsMachine places a → LoadsNext a t call w c
    → value (shown a).base (shown a).state c.id ≡ slice_index (now_at a t) c.id
sees_serial {H} {places} a t call w c kept l =
    let r : RunsAt a t call = l.runs in
    let left = entry_next a t call r w (Some c) l.execution l.next in
    load_reached (opening_of places (shown a)) (shown a).state _ t _ (entered_of r.entry r.execution) c kept.reached (entry_shown a.queue.entries a.execution.items t r.entry r.execution r.at r.has) left
    (load_taken (opening_of places (shown a)) (shown a).state t (entered_of r.entry r.execution) c r.is left)
    ∙ ap (λ (records : List ℕ). slice_index records c.id) (now_shown a t kept.works)

-- the machine with another execution at a ticket
abbrev pub with_work : {H : Type 0} → Inside H → ℕ → Execution → Inside H
with_work a t new = record a { execution = with_item a.execution t new }

-- the execution after one more load
pub record HasLoaded (w new : Execution) : Type 0 where
  pub loads : new.loads ≡ w.loads + 1
  pub stores : new.stores ≡ w.stores
  pub releases : new.releases ≡ w.releases

loaded_entry : (e : QueueEntry) (w new : Execution) → HasLoaded w new → ◌≡◌ {A = Entered} (record (entered_of e w) { loads = w.loads + 1 }) (entered_of e new)
loaded_entry e w new h = rw (h.loads, h.stores, h.releases) refl

pub taken_load : {H : Type 0} {places : H → ℕ → ℕ} (a : Inside H) (t : ℕ) (call : Call) (w : Execution) (c : Claim) (new : Execution) → LoadsNext a t call w c → HasLoaded w new
    → Takes places a (with_work a t new) (event.Load t) (Loaded (value (shown a).base (shown a).state c.id))
taken_load {H} {places} a t call w c new l h =
    let r : RunsAt a t call = l.runs in
    let s : State = (shown a).state in
    let entry : ◌≡◌ {A = Entered} (record (entered_of r.entry r.execution) { loads = r.execution.loads + 1 }) (entered_of r.entry new) =
    ap (λ (x : Execution). let d : Entered = record (entered_of r.entry x) { loads = x.loads + 1 } in d) (sym l.execution) ∙ loaded_entry r.entry w new h in
    record {
      fixed = refl;
      is =
          load_taken (opening_of places (shown a)) s t (entered_of r.entry r.execution) c r.is (entry_next a t call r w (Some c) l.execution l.next)
          ∙ ap (λ (es : List Entered). let out : Outcome = Ok (Loaded (value (shown a).base s c.id), record s { entries = es }) in out)
          (ap (λ (e : Entered). slice_set s.entries t e) entry ∙ sym (work_put a.queue.entries a.execution.items t r.entry new r.at));
    }

-- a call that runs is not gone
running_not_gone : (s : Status) → is_running s ≡ true → is_gone s ≡ true → ⊥
running_not_gone Gone runs gone = cc runs
running_not_gone other runs gone = cc gone

pub core_load : {H : Type 0} {places : H → ℕ → ℕ} (a : Inside H) (t : ℕ) (call : Call) (w : Execution) (c : Claim) (new : Execution) → IsMachine places a → LoadsNext a t call w c → HasLoaded w new
    → IsAtWork a.library.value.procs call (now_at a t) new → IsMachine places (with_work a t new)
core_load {H} {places} a t call w c new core l h at_work =
    let b : Inside H = with_work a t new in
    let r : RunsAt a t call = l.runs in
    let takes = taken_load {places = places} a t call w c new l h in
    let here : (e : QueueEntry) → slice_get a.queue.entries t ≡ Some e → r.entry ≡ e = λ e at. same_Some r.entry e (sym r.at ∙ at) in
    assumption (
      taken_reached a b (event.Load t) _ takes core.reached,
      taken_words a b (event.Load t) _ takes core.reached refl refl refl core.words,
      length-set a.execution.items t new ∙ core.works,
      at_work_put a.library.value a.opening.value.items a.queue.entries a.execution.items t new (λ e at. subst (λ (x : Call). IsAtWork a.library.value.procs x (now_at a t) new) (sym r.own ∙ ap (λ (x : QueueEntry). x.line.call) (here e at)) at_work) core.at_work,
      replied_put a.queue.entries a.execution.items t new (λ e at gone. absurd (running_not_gone e.status (ap (λ (x : QueueEntry). is_running x.status) (sym (here e at)) ∙ r.runs) gone)) core.replied,
    )
