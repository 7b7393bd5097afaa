-- The call of the open turn gets the next ticket.
use Rattle.std.proofs.Common.{◌≡◌, ℕ, ◌<◌, ◌≤◌, ◌⊎◌, inl, inr, Bool, true, false, nat_lt, refl, sym, ap, ◌∙◌, subst, arith, List, [], ◌∷◌, ◌++◌, length, count_by, slice_get, Bor, Option, Some, None, Ok, All, IfSome, vec_capacity, length-append, if◌then◌else◌}
use Rattle.vll_core.proofs.Common.{Vec, option_map, nat_tests, Claim, Proc, IsCallOf, before, IsWellFormed, IsReady, CallsProcedure, Catalog, ready_well, Inside, OpenTurn, NoTurn, OutOfStep, Seen, Free, Blocked, Status, Running, Waiting, Execution, is_waiting, is_gone, Opening, Entered, Turn, State, Outcome, refuse_if, or_refuse, admit, step, QueueEntry, admitted, entry, statuses, Shown, library_of, opening_of, entered_of, entries_of, turn_of, shown, IsAtWork, IsMachine, made_of, AreAtWork, AreReplied}
use Rattle.vll_core.specs.declared.event.Event.TheVariants as event
use Rattle.vll_core.proofs.Places.{all_at, at_push}
use Rattle.vll_core.proofs.AtWork.{procedure_ready}
use Rattle.vll_core.proofs.Reached.{turn_has_room}
use Rattle.vll_core.proofs.SerialRun.{length_before}
use Rattle.vll_core.proofs.MachineState.{length_shown, waiting_shown, entry_pushed, all_from, at_work_pushed, replied_pushed, queued_admitted}
use Rattle.vll_core.proofs.MachineSteps.{library_same, Takes, taken_reached, taken_words}

-- ---- the plain machine

-- the answer to a call that gets a ticket: it runs if all its requests were granted
abbrev pub ticket_seen : Bool → ℕ → Seen
ticket_seen free t = if free then Free t else Blocked t

-- a turn that is open
abbrev pub turn_shown : OpenTurn → Turn
turn_shown turn = record { client = turn.client; call = turn.call; requested = turn.requested; granted = turn.granted }

-- an open turn whose claims are all requested enters its call
admit_step : (o : Opening) (s : State) (turn : Turn) → s.turn ≡ Some turn → length turn.call.claims ≤ turn.requested → step o s event.Admit ≡ admit s turn
admit_step o s turn is asked =
    let none_left : nat_lt turn.requested (length turn.call.claims) ≡ false = grind (arith, nat_tests, asked) in
    ap (λ (x : Option Turn). or_refuse x NoTurn (λ (t : Turn). refuse_if (nat_lt t.requested (length t.call.claims)) OutOfStep (admit s t))) is
    ∙ ap (λ (b : Bool). refuse_if b OutOfStep (admit s turn)) none_left

-- the call that a turn enters
abbrev entered_by : Turn → Entered
entered_by turn = record { client = turn.client; call = turn.call; status = if turn.granted then Running else Waiting; loads = 0; stores = 0; releases = 0 }

admit_is : (s : State) (turn : Turn)
    → admit s turn ≡ Ok (ticket_seen turn.granted (length s.entries), record s { entries = s.entries ++ entered_by turn ∷ []; turn = None })
admit_is s turn = by_grant turn.granted
  where
    next : Status → State
    next status = record s { entries = s.entries ++ record { client = turn.client; call = turn.call; status = status; loads = 0; stores = 0; releases = 0 } ∷ []; turn = None }

    by_grant : (b : Bool) → ◌≡◌ {A = Outcome} (if b then Ok (Free (length s.entries), next Running) else Ok (Blocked (length s.entries), next Waiting))
        (Ok (ticket_seen b (length s.entries), next (if b then Running else Waiting)))
    by_grant true = refl
    by_grant false = refl

-- ---- the machine

-- the entry of an open turn's call
abbrev pub turn_entry : OpenTurn → QueueEntry
turn_entry turn = entry turn.client turn.call turn.granted

-- all claims of the open turn are requested, and the works of a machine have that of its call at their end, which has done nothing
pub record HasWork {H : Type 0} (a : Inside H) (turn : OpenTurn) (works : Vec Execution) (w : Execution) : Type 0 where
  pub opened : a.turn ≡ Some turn
  pub asked : length turn.call.claims ≤ turn.requested
  pub pushed : works.items ≡ a.execution.items ++ w ∷ []
  pub room : vec_capacity works ≡ vec_capacity a.execution
  pub loads : w.loads ≡ 0
  pub stores : w.stores ≡ 0
  pub releases : w.releases ≡ 0
  pub at_work : (records : List ℕ) → length records ≡ a.library.value.records → All (λ (d : Claim). d.id < length records) turn.call.claims → IsAtWork a.library.value.procs turn.call records w

-- the fields of a machine once the call of its open turn has a ticket
abbrev pub entered_turn : {H : Type 0} → Inside H → OpenTurn → Vec Execution → Inside H
entered_turn a turn works = record a { queue = admitted a.queue (turn_entry turn); execution = works; turn = None }

-- the call of an open turn is ready
pub turn_ready : {H : Type 0} {places : H → ℕ → ℕ} (a : Inside H) (turn : OpenTurn) → IsMachine places a → a.turn ≡ Some turn → IsReady a.library.value turn.call
turn_ready a turn core opened = subst (λ (x : Option OpenTurn). IfSome x (λ (t : OpenTurn). IsReady a.library.value t.call)) opened core.turn_ready

-- the procedure of an open turn's call
pub record IsTurnProcedure {H : Type 0} (a : Inside H) (turn : OpenTurn) (p : Proc) : Type 0 where
  pub found : slice_get a.library.value.procs turn.call.number ≡ Some p
  pub formed : IsWellFormed p
  pub made : IsCallOf a.library.value.records p turn.call

pub turn_procedure : {H : Type 0} {places : H → ℕ → ℕ} (a : Inside H) (s : Shown H) (turn : OpenTurn) (library : Catalog) (lent : Option (Bor Proc)) (p : Bor Proc)
    → IsMachine places a → shown a ≡ s → library ≡ library_of s → a.turn ≡ Some turn
    → option_map (λ (q : Bor Proc). q.now) lent ≡ slice_get library.procs turn.call.number → lent ≡ Some p → IsTurnProcedure a turn p.now
turn_procedure a s turn library lent p core view same opened at is =
    let here : slice_get library.procs turn.call.number ≡ Some p.now = sym at ∙ ap (λ (o : Option (Bor Proc)). option_map (λ (q : Bor Proc). q.now) o) is in
    let found : slice_get a.library.value.procs turn.call.number ≡ Some p.now = subst (λ (c : Catalog). slice_get c.procs turn.call.number ≡ Some p.now) (library_same a s library core view same) here in
    let suits : IsWellFormed p.now × IsCallOf a.library.value.records p.now turn.call = procedure_ready a.library.value turn.call p.now core.catalog (turn_ready a turn core opened) found in
    record { found = found; formed = suits.0; made = suits.1 }

-- the call is one of it also where there are as many records
pub made_among : {H : Type 0} (a : Inside H) (turn : OpenTurn) (p : Proc) → IsTurnProcedure a turn p → (records : List ℕ) → length records ≡ a.library.value.records → IsCallOf (length records) p turn.call
made_among a turn p is records long = subst (λ (n : ℕ). IsCallOf n p turn.call) (sym long) is.made

-- where a turn is open, there is room for its call
pub turn_room : {H : Type 0} {places : H → ℕ → ℕ} (a : Inside H) (turn : OpenTurn) → IsMachine places a → a.turn ≡ Some turn → length a.queue.entries < a.queue.limit
turn_room {H} {places} a turn core opened =
    let room = turn_has_room (opening_of places (shown a)) (shown a).state (turn_shown turn) core.reached (ap turn_of opened) in
    let left = room.0 in
    omega (arith, left, length_shown a.queue.entries a.execution.items core.works)

-- and one more call may wait
pub turn_idle : {H : Type 0} {places : H → ℕ → ℕ} (a : Inside H) (turn : OpenTurn) → IsMachine places a → a.turn ≡ Some turn → count_by is_waiting (statuses a.queue) < a.queue.cap
turn_idle {H} {places} a turn core opened =
    let room = turn_has_room (opening_of places (shown a)) (shown a).state (turn_shown turn) core.reached (ap turn_of opened) in
    let few = room.1 in
    omega (arith, few, waiting_shown a.queue.entries a.execution.items core.works)

pub taken_admit : {H : Type 0} {places : H → ℕ → ℕ} (a : Inside H) (turn : OpenTurn) (works : Vec Execution) (w : Execution) → IsMachine places a → HasWork a turn works w
    → Takes places a (entered_turn a turn works) event.Admit (ticket_seen turn.granted (length a.queue.entries))
taken_admit {H} {places} a turn works w core has =
    let s : State = (shown a).state in
    let long : length s.entries ≡ length a.queue.entries = length_shown a.queue.entries a.execution.items core.works in
    let blank : entered_of (turn_entry turn) w ≡ entered_by (turn_shown turn) = rw (has.loads, has.stores, has.releases) refl in
    let entries : entries_of (a.queue.entries ++ turn_entry turn ∷ []) works.items ≡ s.entries ++ entered_by (turn_shown turn) ∷ [] =
    ap (λ (ws : List Execution). entries_of (a.queue.entries ++ turn_entry turn ∷ []) ws) has.pushed
    ∙ (entry_pushed a.queue.entries a.execution.items (turn_entry turn) w core.works ∙ ap (λ (e : Entered). s.entries ++ e ∷ []) blank) in
    record {
      fixed = refl;
      is =
          admit_step (opening_of places (shown a)) s (turn_shown turn) (ap turn_of has.opened) has.asked
          ∙ (admit_is s (turn_shown turn)
          ∙ (ap (λ (n : ℕ). let out : Outcome = Ok (ticket_seen turn.granted n, record s { entries = s.entries ++ entered_by (turn_shown turn) ∷ []; turn = None }) in out) long
          ∙ ap (λ (es : List Entered). let out : Outcome = Ok (ticket_seen turn.granted (length a.queue.entries), record s { entries = es; turn = None }) in out) (sym entries)));
    }

here_still : (free : Bool) → is_gone (if free then Running else Waiting) ≡ false
here_still true = refl
here_still false = refl

pub core_admit : {H : Type 0} {places : H → ℕ → ℕ} (a : Inside H) (turn : OpenTurn) (works : Vec Execution) (w : Execution) → IsMachine places a → HasWork a turn works w → IsMachine places (entered_turn a turn works)
core_admit {H} {places} a turn works w core has =
    let b : Inside H = entered_turn a turn works in
    let seen : Seen = ticket_seen turn.granted (length a.queue.entries) in
    let takes : Takes places a b event.Admit seen = taken_admit a turn works w core has in
    let last : QueueEntry = turn_entry turn in
    let calls : CallsProcedure a.library.value turn.call = ready_well a.library.value turn.call core.catalog (turn_ready a turn core has.opened) in
    let now : List ℕ = before a.library.value.procs (made_of a.queue.entries) a.opening.value.items (length a.queue.entries) in
    let long : length now ≡ a.library.value.records = length_before a.library.value.procs (made_of a.queue.entries) a.opening.value.items (length a.queue.entries) ∙ sym core.records in
    let within : All (λ (d : Claim). d.id < length now) turn.call.claims = subst (λ (n : ℕ). All (λ (d : Claim). d.id < n) turn.call.claims) (sym long) calls.within in
    let room : a.queue.limit ≤ vec_capacity works = omega (arith, core.room, has.room) in
    let as_many : length works.items ≡ length b.queue.entries =
    ap (λ (ws : List Execution). length ws) has.pushed ∙ omega (arith, core.works, length-append a.execution.items (w ∷ []), length-append a.queue.entries (last ∷ [])) in
    assumption (
      taken_reached a b event.Admit seen takes core.reached,
      taken_words a b event.Admit seen takes core.reached refl refl refl core.words,
      queued_admitted a.queue last (turn_room a turn core has.opened) (turn_idle a turn core has.opened) refl (here_still turn.granted) core.queue,
      as_many,
      all_from (λ (e : QueueEntry). IsReady a.library.value e.line.call) b.queue.entries (λ t e at. ready t e (at_push a.queue.entries last t e at)),
      subst (AreAtWork a.library.value a.opening.value.items b.queue.entries) (sym has.pushed) (at_work_pushed a.library.value a.opening.value.items a.queue.entries a.execution.items last w core.works (has.at_work now long within) core.at_work),
      subst (AreReplied b.queue.entries) (sym has.pushed) (replied_pushed a.queue.entries a.execution.items last w core.works (here_still turn.granted) core.replied),
      room,
    )
  where
    ready : (t : ℕ) (e : QueueEntry) → (slice_get a.queue.entries t ≡ Some e) ⊎ ((t ≡ length a.queue.entries) × (e ≡ turn_entry turn)) → IsReady a.library.value e.line.call
    ready t e (inl at) = all_at (λ (d : QueueEntry). IsReady a.library.value d.line.call) a.queue.entries t e core.entries_ready at
    ready t e (inr new) =
        subst (λ (d : QueueEntry). IsReady a.library.value d.line.call) (sym new.1) (turn_ready a turn core has.opened)
