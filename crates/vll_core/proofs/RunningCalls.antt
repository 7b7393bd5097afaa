-- What is known of a running call of a machine.
use Rattle.std.proofs.Common.{◌≡◌, ℕ, ◌<◌, ◌==◌, ◌&&◌, ◌||◌, Bool, true, false, refl, sym, ap, ◌∙◌, subst, arith, List, [], ◌∷◌, length, take, slice_get, slice_index_or, Option, Some, None, All, Bor, if◌then◌else◌}
use Rattle.vll_core.proofs.Common.{option_map, IsSome, same_Some, slice_get-map, slice_get_within, get_or_from_slice_get, exact_unsigned_eq, Claim, Call, Proc, IsCallOf, Made, After, apply, applied_at, before, end, IsWellFormed, length-applied, IsReady, CallsProcedure, Catalog, ready_well, Line, Inside, Status, Running, Execution, is_running, Entered, writes, is_aborted, records_before, running, if_running, has_stored, Shown, library_of, QueueEntry, lines, statuses, entered_of, shown, IsAtWork, IsMachine, made_of}
use Rattle.vll_core.proofs.Tests.{both_true}
use Rattle.vll_core.proofs.Places.{all_at, entry_at}
use Rattle.vll_core.proofs.MachineState.{entry_shown, none_shown, made_shown}

abbrev call_of : Entered → Call
call_of e = e.call

-- ---- the call that runs at a ticket

-- where no call has a ticket, none runs at it
pub none_runs : {H : Type 0} (a : Inside H) (t : ℕ) → slice_get (statuses a.queue) t ≡ None → option_map call_of (running (shown a).state t) ≡ None
none_runs a t none =
    ap (λ (o : Option Entered). option_map call_of (if_running o)) (none_shown a.queue.entries a.execution.items t (no_item (slice_get a.queue.entries t) (sym (slice_get-map (λ (e : QueueEntry). e.status) a.queue.entries t) ∙ none)))
  where
    no_item : (o : Option QueueEntry) → option_map (λ (e : QueueEntry). e.status) o ≡ None → o ≡ None
    no_item None is = refl
    no_item (Some e) is = absurd (cc is)

-- an entry of the queue and its execution
record IsEntry {H : Type 0} (a : Inside H) (t : ℕ) : Type 0 where
  entry : QueueEntry
  execution : Execution
  at : slice_get a.queue.entries t ≡ Some entry
  has : slice_get a.execution.items t ≡ Some execution

-- a ticket's status is that of an entry
entry_of_status : {H : Type 0} (a : Inside H) (t : ℕ) (s : Status) → length a.execution.items ≡ length a.queue.entries → slice_get (statuses a.queue) t ≡ Some s
    → (i : IsEntry a t) × (i.entry.status ≡ s)
entry_of_status a t s same is =
    let found = some_item (slice_get a.queue.entries t) (sym (slice_get-map (λ (e : QueueEntry). e.status) a.queue.entries t) ∙ is) in
    let within = slice_get_within a.queue.entries t found.0 found.1 in
    let execution = entry_at a.execution.items t (omega (arith, within, same)) in
    (record { entry = found.0; execution = execution.0; at = found.1; has = execution.1 }, found.2)
  where
    some_item : (o : Option QueueEntry) → option_map (λ (e : QueueEntry). e.status) o ≡ Some s → (e : QueueEntry) × (o ≡ Some e) × (e.status ≡ s)
    some_item None h = absurd (cc h)
    some_item (Some e) h = (e, refl, same_Some e.status s h)

running_entry : {H : Type 0} (a : Inside H) (t : ℕ) (i : IsEntry a t) (b : Bool) → is_running i.entry.status ≡ b
    → running (shown a).state t ≡ (if b then Some (entered_of i.entry i.execution) else None)
running_entry a t i b is =
    ap (λ (o : Option Entered). if_running o) (entry_shown a.queue.entries a.execution.items t i.entry i.execution i.at i.has)
    ∙ ap (λ (x : Bool). if x then Some (entered_of i.entry i.execution) else None) is

-- a ticket whose status is another does not run
pub other_runs_not : {H : Type 0} (a : Inside H) (t : ℕ) (s : Status) → length a.execution.items ≡ length a.queue.entries → slice_get (statuses a.queue) t ≡ Some s → (s ≡ Running → ⊥)
    → option_map call_of (running (shown a).state t) ≡ None
other_runs_not a t s same is not =
    let i = entry_of_status a t s same is in
    ap (λ (o : Option Entered). option_map call_of o) (running_entry a t i.0 false (ap (λ (x : Status). is_running x) i.1 ∙ still s not))
  where
    still : (x : Status) → (x ≡ Running → ⊥) → is_running x ≡ false
    still Running other = absurd (other refl)
    still x other = refl

-- a ticket that runs has the call of its line
pub line_runs : {H : Type 0} (a : Inside H) (t : ℕ) (l : Line) → length a.execution.items ≡ length a.queue.entries → slice_get (statuses a.queue) t ≡ Some Running → slice_get (lines a.queue) t ≡ Some l
    → option_map call_of (running (shown a).state t) ≡ Some l.call
line_runs a t l same is line =
    let i = entry_of_status a t Running same is in
    let own : i.0.entry.line ≡ l =
    same_Some i.0.entry.line l (ap (λ (o : Option QueueEntry). option_map (λ (e : QueueEntry). e.line) o) (sym i.0.at) ∙ (sym (slice_get-map (λ (e : QueueEntry). e.line) a.queue.entries t) ∙ line)) in
    ap (λ (o : Option Entered). option_map call_of o) (running_entry a t i.0 true (ap (λ (x : Status). is_running x) i.1))
    ∙ ap (λ (x : Line). Some x.call) own

-- a ticket that has a status has a line
pub line_there : {H : Type 0} (a : Inside H) (t : ℕ) (s : Status) → length a.execution.items ≡ length a.queue.entries → slice_get (statuses a.queue) t ≡ Some s → slice_get (lines a.queue) t ≡ None → ⊥
line_there a t s same is none =
    let i = entry_of_status a t s same is in
    cc (sym none ∙ (slice_get-map (λ (e : QueueEntry). e.line) a.queue.entries t ∙ ap (λ (o : Option QueueEntry). option_map (λ (e : QueueEntry). e.line) o) i.0.at))

-- ---- what is known of it

-- calls leave the number of records
pub length_before : (procs : List Proc) (calls : List Made) (records : List ℕ) (t : ℕ) → length (before procs calls records t) ≡ length records
length_before procs calls records t = at_end (take t calls) records
  where
    applied_length : (o : Option Proc) (call : Call) (now : List ℕ) → length (applied_at o call now).records ≡ length now
    applied_length None call now = refl
    applied_length (Some p) call now = length-applied p call now

    at_end : (made : List Made) (now : List ℕ) → length (end procs made now) ≡ length now
    at_end [] now = refl
    at_end (m ∷ more) now = at_end more (apply procs m.1 now).records ∙ applied_length (slice_get procs m.1.number) m.1 now

-- the records before a ticket
abbrev pub now_at : {H : Type 0} → Inside H → ℕ → List ℕ
now_at a t = before a.library.value.procs (made_of a.queue.entries) a.opening.value.items t

pub now_shown : {H : Type 0} (a : Inside H) (t : ℕ) → length a.execution.items ≡ length a.queue.entries → records_before (shown a).base (shown a).state t ≡ now_at a t
now_shown a t same =
    ap (λ (calls : List Made). before a.library.value.procs calls a.opening.value.items t) (made_shown a.queue.entries a.execution.items same)

-- the call runs at the ticket, with its entry in the queue and its execution
pub record RunsAt {H : Type 0} (a : Inside H) (t : ℕ) (call : Call) : Type 0 where
  pub entry : QueueEntry
  pub execution : Execution
  pub at : slice_get a.queue.entries t ≡ Some entry
  pub has : slice_get a.execution.items t ≡ Some execution
  pub is : running (shown a).state t ≡ Some (entered_of entry execution)
  pub own : entry.line.call ≡ call
  pub runs : is_running entry.status ≡ true
  pub calls : CallsProcedure a.library.value call
  pub long : length (now_at a t) ≡ a.library.value.records
  pub within : All (λ (d : Claim). d.id < length (now_at a t)) call.claims
  pub at_work : IsAtWork a.library.value.procs call (now_at a t) execution

pub runs_at : {H : Type 0} {places : H → ℕ → ℕ} (a : Inside H) (t : ℕ) (call : Call) → IsMachine places a → option_map call_of (running (shown a).state t) ≡ Some call → RunsAt a t call
runs_at a t call kept told = by_entry (slice_get a.queue.entries t) refl
  where
    by_work : (e : QueueEntry) (w : Execution) → slice_get a.queue.entries t ≡ Some e → slice_get a.execution.items t ≡ Some w → RunsAt a t call
    by_work e w at has = by_test (is_running e.status) refl
      where
        by_test : (b : Bool) → is_running e.status ≡ b → RunsAt a t call
        by_test false is = absurd (cc (sym told ∙ ap (λ (o : Option Entered). option_map call_of o) (running_entry a t (record { entry = e; execution = w; at = at; has = has }) false is)))
        by_test true is =
            let runs = running_entry a t (record { entry = e; execution = w; at = at; has = has }) true is in
            let own : e.line.call ≡ call = same_Some e.line.call call (ap (λ (o : Option Entered). option_map call_of o) (sym runs) ∙ told) in
            let ready : IsReady a.library.value call = subst (IsReady a.library.value) own (all_at (λ (d : QueueEntry). IsReady a.library.value d.line.call) a.queue.entries t e kept.entries_ready at) in
            let calls : CallsProcedure a.library.value call = ready_well a.library.value call kept.catalog ready in
            let long : length (now_at a t) ≡ a.library.value.records = length_before a.library.value.procs (made_of a.queue.entries) a.opening.value.items t ∙ sym kept.records in
            record {
              entry = e;
              execution = w;
              at = at;
              has = has;
              is = runs;
              own = own;
              runs = is;
              calls = calls;
              long = long;
              within = subst (λ (n : ℕ). All (λ (d : Claim). d.id < n) call.claims) (sym long) calls.within;
              at_work = subst (λ (x : Call). IsAtWork a.library.value.procs x (now_at a t) w) own (kept.at_work t e w at has);
            }

    by_entry : (o : Option QueueEntry) → slice_get a.queue.entries t ≡ o → RunsAt a t call
    by_entry None none = absurd (cc (sym told ∙ ap (λ (o : Option Entered). option_map call_of (if_running o)) (none_shown a.queue.entries a.execution.items t none)))
    by_entry (Some e) at =
        let within = slice_get_within a.queue.entries t e at in
        let same = kept.works in
        let w = entry_at a.execution.items t (omega (arith, within, same)) in
        by_work e w.0 at w.1

-- a call that runs in the state runs in the fields that show the state
pub runs_told : {H : Type 0} {places : H → ℕ → ℕ} (a : Inside H) (s : Shown H) (t : ℕ) (call : Call) → IsMachine places a → shown a ≡ s → Some call ≡ option_map call_of (running s.state t) → RunsAt a t call
runs_told {H} a s t call kept view told = runs_at a t call kept (ap (λ (x : Shown H). option_map call_of (running x.state t)) view ∙ sym told)

-- the execution that is read at the ticket is the call's
pub read_work : {H : Type 0} (a : Inside H) (t u : ℕ) (call : Call) (r : RunsAt a u call) (w : Execution) → t ≡ u → w ≡ slice_index_or a.execution.items t w → w ≡ r.execution
read_work a t u call r w same read =
    read ∙ ap (λ (n : ℕ). slice_index_or a.execution.items n w) same ∙ get_or_from_slice_get a.execution.items u r.execution w r.has

-- and there is one
pub work_there : {H : Type 0} (a : Inside H) (t u : ℕ) (call : Call) → RunsAt a u call → t ≡ u → t < length a.execution.items
work_there a t u call r same = let within = slice_get_within a.execution.items u r.execution r.has in omega (arith, within, same)

-- a procedure borrowed from the library that is passed is one of the machine's library, if that is the one passed
pub lent_here : {H : Type 0} (a : Inside H) (s : Shown H) (library : Catalog) (number : ℕ) (o : Option (Bor Proc)) → shown a ≡ s → library ≡ library_of s
    → option_map (λ (p : Bor Proc). p.now) o ≡ slice_get library.procs number → option_map (λ (p : Bor Proc). p.now) o ≡ slice_get a.library.value.procs number
lent_here {H} a s library number o view same lent =
    lent ∙ (ap (λ (c : Catalog). slice_get c.procs number) same ∙ ap (λ (x : Shown H). slice_get x.base.procs number) (sym view))

-- the library has the procedure of the call
pub procedure_lent : {H : Type 0} (a : Inside H) (t : ℕ) (call : Call) (o : Option (Bor Proc)) → RunsAt a t call → option_map (λ (p : Bor Proc). p.now) o ≡ slice_get a.library.value.procs call.number → IsSome o
procedure_lent a t call None r is = absurd (cc (is ∙ r.calls.found))
procedure_lent a t call (Some p) r is = refl

-- it is well-formed, and the call is one of it
pub procedure_is : {H : Type 0} (a : Inside H) (t : ℕ) (call : Call) (o : Option (Bor Proc)) (p : Bor Proc) → RunsAt a t call → option_map (λ (q : Bor Proc). q.now) o ≡ slice_get a.library.value.procs call.number → o ≡ Some p
    → (slice_get a.library.value.procs call.number ≡ Some p.now) × (IsWellFormed p.now × IsCallOf a.library.value.records p.now call)
procedure_is a t call o p r is lent =
    let at : slice_get a.library.value.procs call.number ≡ Some p.now = sym is ∙ ap (λ (x : Option (Bor Proc)). option_map (λ (q : Bor Proc). q.now) x) lent in
    let same : r.calls.procedure ≡ p.now = same_Some r.calls.procedure p.now (sym r.calls.found ∙ at) in
    (at, (subst IsWellFormed same r.calls.formed, subst (λ (q : Proc). IsCallOf a.library.value.records q call) same r.calls.made))

-- also where there are as many records as before the ticket
pub made_now : {H : Type 0} (a : Inside H) (t : ℕ) (call : Call) (r : RunsAt a t call) (p : Proc) → IsCallOf a.library.value.records p call → IsCallOf (length (now_at a t)) p call
made_now a t call r p made = subst (λ (n : ℕ). IsCallOf n p call) (sym r.long) made

-- what the execution says of loads and stores
abbrev pub stored_by_work : Call → After → Execution → Bool
stored_by_work call after w =
    (w.loads == length call.claims) && (((w.loads == length call.claims) && is_aborted after.reply) || (w.stores == length (writes call)))

-- is what the machine says of them
pub stored_shown : {H : Type 0} (a : Inside H) (t : ℕ) (call : Call) (r : RunsAt a t call) (w : Execution) → length a.execution.items ≡ length a.queue.entries → w ≡ r.execution
    → has_stored (shown a).base (shown a).state t (entered_of r.entry r.execution) ≡ stored_by_work call (apply a.library.value.procs call (now_at a t)) w
stored_shown a t call r w same is =
    ap (λ (records : List ℕ). stored_by_work r.entry.line.call (apply a.library.value.procs r.entry.line.call records) r.execution) (now_shown a t same)
    ∙ (ap (λ (x : Call). stored_by_work x (apply a.library.value.procs x (now_at a t)) r.execution) r.own
    ∙ ap (λ (x : Execution). stored_by_work call (apply a.library.value.procs call (now_at a t)) x) (sym is))

-- the execution is its call's
pub read_at_work : {H : Type 0} (a : Inside H) (t : ℕ) (call : Call) (r : RunsAt a t call) (w : Execution) → w ≡ r.execution → IsAtWork a.library.value.procs call (now_at a t) w
read_at_work a t call r w is = subst (IsAtWork a.library.value.procs call (now_at a t)) (sym is) r.at_work

-- once all loads are made there is the reply
pub replies : {H : Type 0} (a : Inside H) (t : ℕ) (call : Call) (r : RunsAt a t call) (w : Execution) → w ≡ r.execution → stored_by_work call (apply a.library.value.procs call (now_at a t)) w ≡ true
    → w.reply ≡ Some (apply a.library.value.procs call (now_at a t)).reply
replies a t call r w is all = (read_at_work a t call r w is).ran (exact_unsigned_eq w.loads (length call.claims) (both_true _ _ all).0)
