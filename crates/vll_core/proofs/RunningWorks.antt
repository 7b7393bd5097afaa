-- The call of a ticket that runs: its entry of the queue, its execution, and what the plain machine finds of it.
use Rattle.std.proofs.Common.{◌≡◌, ℕ, ◌<◌, true, refl, sym, ap, ◌∙◌, subst, List, length, slice_get, slice_index_or, Option, Some}
use Rattle.vll_core.proofs.Common.{option_map, same_Some, slice_get_read, slice_get_within, Call, Reply, CallsProcedure, Inside, Status, Execution, is_running, QueueEntry, Entered, records_before, running, if_running, Shown, shown, IsAtWork, IsMachine}
use Rattle.vll_core.proofs.RunningCalls.{RunsAt, runs_told, read_work, work_there, now_shown}
use Rattle.vll_core.proofs.MachineState.{entry_shown}

-- an entry with its call's execution
abbrev pub entered_as : ℕ → Call → Status → Execution → Entered
entered_as client call status w = record { client = client; call = call; status = status; loads = w.loads; stores = w.stores; releases = w.releases }

-- the call of a ticket runs, and this is its execution
pub record Runs {H : Type 0} (a : Inside H) (t : ℕ) (call : Call) (w : Execution) : Type 0 where
  pub client : ℕ
  pub reply : Option Reply
  pub status : Status
  pub queued : slice_get a.queue.entries t ≡ Some (record { line = record { client = client; call = call; reply = reply }; status = status })
  pub worked : slice_get a.execution.items t ≡ Some w
  pub runs : is_running status ≡ true
  pub at : slice_get (shown a).state.entries t ≡ Some (entered_as client call status w)
  pub found : running (shown a).state t ≡ Some (entered_as client call status w)
  pub execution : IsAtWork a.library.value.procs call (records_before (shown a).base (shown a).state t) w
  pub well : CallsProcedure a.library.value call

-- an entry that runs is found
pub runs_found : (x : Option Entered) (e : Entered) → x ≡ Some e → is_running e.status ≡ true → if_running x ≡ Some e
runs_found x e is runs = ap if_running is ∙ rw runs refl

-- a call that runs has its execution
pub work_within : {H : Type 0} {places : H → ℕ → ℕ} (a : Inside H) (s : Shown H) (t : ℕ) (call : Call) → IsMachine places a → shown a ≡ s → Some call ≡ option_map (λ (e : Entered). e.call) (running s.state t)
    → t < length a.execution.items
work_within a s t call core view is = work_there a t t call (runs_told a s t call core view is) refl

-- what is known of a call that runs, by the execution that is read
pub runs_of : {H : Type 0} {places : H → ℕ → ℕ} (a : Inside H) (s : Shown H) (t : ℕ) (call : Call) (w : Execution) → IsMachine places a → shown a ≡ s → Some call ≡ option_map (λ (e : Entered). e.call) (running s.state t)
    → w ≡ slice_index_or a.execution.items t w → Runs a t call w
runs_of a s t call w core view is read =
    let f : RunsAt a t call = runs_told a s t call core view is in
    let same : f.execution ≡ w = sym (read_work a t t call f w refl read) in
    let worked : slice_get a.execution.items t ≡ Some w = f.has ∙ ap (λ (x : Execution). Some x) same in
    let queued : slice_get a.queue.entries t ≡ Some (record { line = record { client = f.entry.line.client; call = call; reply = f.entry.line.reply }; status = f.entry.status }) =
    f.at ∙ ap (λ (c : Call). let x : QueueEntry = record { line = record { client = f.entry.line.client; call = c; reply = f.entry.line.reply }; status = f.entry.status } in Some x) f.own in
    let at = entry_shown a.queue.entries a.execution.items t _ w queued worked in
    record {
      client = f.entry.line.client;
      reply = f.entry.line.reply;
      status = f.entry.status;
      queued = queued;
      worked = worked;
      runs = f.runs;
      at = at;
      found = runs_found _ _ at f.runs;
      execution =
          subst (λ (x : Execution). IsAtWork a.library.value.procs call (records_before (shown a).base (shown a).state t) x) same
          (subst (λ (now : List ℕ). IsAtWork a.library.value.procs call now f.execution) (sym (now_shown a t core.works)) f.at_work);
      well = f.calls;
    }

-- a call that runs has one execution only
pub same_work : {H : Type 0} (a : Inside H) (t : ℕ) (call : Call) (w next : Execution) → Runs a t call w → next ≡ slice_index_or a.execution.items t next → next ≡ w
same_work a t call w next r read =
    same_Some next w (sym (slice_get_read a.execution.items (length a.execution.items) t next refl (slice_get_within a.execution.items t w r.worked) read) ∙ r.worked)
