-- The event that brings a machine nearer to its end is not refused, and where there is none the machine is at its end.
use Rattle.std.proofs.Common.{◌≡◌, ℕ, ◌+◌, ◌*◌, ◌<◌, ◌≤◌, ◌^◌, ◌==◌, not, nat_lt, Bool, true, false, List, length, All, slice_get, get_or, Option, Some, None, is_some, is_ok, cond, if◌then◌else◌, refl, sym, ap, ◌∙◌, subst, arith}
use Rattle.vll_core.proofs.Common.{option_map, IfSome, position, position_or_len, or_from, sum_by-le, fails_before_first, passes_at_first, exact_unsigned_eq, same_Some, slice_get-map, slice_get-get_or, slice_get_within, get_or_from_slice_get, Claim, MOST_CLAIMS, Call, claims_few, IsReady, CallsProcedure, Catalog, IsCatalog, ready_well, Status, Running, Waiting, Gone, is_running, is_gone, Event, Refusal, OpenTurn, Inside, Execution, Opening, Entered, State, Turn, Outcome, refuse_if, or_refuse, has_stored, running, if_running, front, admit, IsAtEnd, most_of, QueueEntry, statuses, is_left, front_among, waiting_ticket, Shown, opening_of, shown, turn_of, IsMachine, IsNext, steps_left, turn_left, left}
use Rattle.vll_core.specs.declared.event.Event.TheVariants as event
use Rattle.vll_core.proofs.Tests.{lt_no, eq_no, not_no}
use Rattle.vll_core.proofs.Places.{all_at, entry_at}
use Rattle.vll_core.proofs.Draining.{entry_most}
use Rattle.vll_core.proofs.Entries.{front_at}
use Rattle.vll_core.proofs.Finished.{at_end}
use Rattle.vll_core.proofs.Reached.{kept_reached}
use Rattle.vll_core.proofs.RunningWorks.{Runs, entered_as}
use Rattle.vll_core.proofs.MachineState.{shown_at, statuses_shown}
use Rattle.vll_core.proofs.QueueLaws.{machine_front}

-- what is not refused
goes_on : (b : Bool) (why : Refusal) (go : Outcome) → b ≡ false → is_ok go ≡ true → is_ok (refuse_if b why go) ≡ true
goes_on true why go is ok = absurd (cc is)
goes_on false why go is ok = ok

goes_with : {A : Type 0} (x : Option A) (a : A) (why : Refusal) (go : A → Outcome) → x ≡ Some a → is_ok (go a) ≡ true → is_ok (or_refuse x why go) ≡ true
goes_with x a why go is ok = subst (λ (y : Option _). is_ok (or_refuse y why go) ≡ true) (sym is) ok

below : (m n : ℕ) → m ≤ n → (m == n) ≡ false → m < n
below m n within not = let apart = eq_no m n not in omega (arith, within, apart)

not_below : (m n : ℕ) → (m == n) ≡ true → nat_lt m n ≡ false
not_below m n same = let is = exact_unsigned_eq m n same in grind (arith, is)

-- what goes on from what fields show goes on from what is seen
pub seen_next : {H : Type 0} (places : H → ℕ → ℕ) (a : Inside H) (s : Shown H) (e : Event) → shown a ≡ s → IsNext (opening_of places (shown a)) (shown a).state e → IsNext (opening_of places s) s.state e
seen_next {H} places a s e view next = subst (λ (x : Shown H). IsNext (opening_of places x) x.state e) view next

-- ---- the open turn

-- the next event of a turn
abbrev pub turn_next : Turn → Event
turn_next turn = if nat_lt turn.requested (length turn.call.claims) then event.Claim else event.Admit

-- where no turn is kept, none is shown
pub none_kept : (x : Option OpenTurn) → ((u : OpenTurn) → x ≡ Some u → ⊥) → turn_of x ≡ None
none_kept None none = refl
none_kept (Some u) none = absurd (none u refl)

pub turn_goes : (o : Opening) (s : State) (turn : Turn) → s.turn ≡ Some turn → IsNext o s (turn_next turn)
turn_goes o s turn is = by_test (nat_lt turn.requested (length turn.call.claims)) refl
  where
    admits : (b : Bool) → turn.granted ≡ b → is_ok (admit s turn) ≡ true
    admits true g = rw g refl
    admits false g = rw g refl

    by_test : (b : Bool) → nat_lt turn.requested (length turn.call.claims) ≡ b → IsNext o s (if b then event.Claim else event.Admit)
    by_test true more =
        let c = entry_at turn.call.claims turn.requested (grind (arith, more)) in
        record { other = refl; taken = goes_with s.turn turn _ _ is (goes_with (slice_get turn.call.claims turn.requested) c.0 _ _ c.1 refl) }
    by_test false more =
        record { other = refl; taken = goes_with s.turn turn _ _ is (goes_on _ _ _ more (admits turn.granted refl)) }

-- ---- a call that runs

module _ {H : Type 0} (places : H → ℕ → ℕ) (a : Inside H) (t : ℕ) (call : Call) (w : Execution) (r : Runs a t call w) where
  -- the entry that runs
  abbrev entry : Entered
  entry = entered_as r.client call r.status w

  abbrev now : State
  now = (shown a).state

  pub load_next : (w.loads == length call.claims) ≡ false → IsNext (opening_of places (shown a)) now (event.Load t)
  load_next more =
      let c = entry_at call.claims w.loads (below w.loads (length call.claims) r.execution.within more) in
      record { other = refl; taken = goes_with (running now t) entry _ _ r.found (goes_with (slice_get call.claims w.loads) c.0 _ _ c.1 refl) }

  pub store_next : (w.loads == length call.claims) ≡ true → has_stored (shown a).base now t entry ≡ false → IsNext (opening_of places (shown a)) now (event.Store t)
  store_next all more =
      record { other = refl; taken = goes_with (running now t) entry _ _ r.found (goes_on _ _ _ (or_from _ _ (not_below w.loads (length call.claims) all) more) refl) }

  pub release_next : has_stored (shown a).base now t entry ≡ true → (o : Option Claim) → o ≡ slice_get call.claims w.releases → is_some o ≡ true → IsNext (opening_of places (shown a)) now (event.Release t)
  release_next all (Some c) at more =
      record { other = refl; taken = goes_with (running now t) entry _ _ r.found (goes_on _ _ _ (ap not all) (goes_with (slice_get call.claims w.releases) c _ _ (sym at) refl)) }
  release_next all None at more = absurd (cc more)

  pub finish_next : is_some now.turn ≡ false → has_stored (shown a).base now t entry ≡ true → (o : Option Claim) → o ≡ slice_get call.claims w.releases → is_some o ≡ false → IsNext (opening_of places (shown a)) now (event.Finish t)
  finish_next closed all o at none =
      record { other = refl; taken = goes_on _ _ _ closed (goes_with (running now t) entry _ _ r.found (goes_on _ _ _ (or_from _ _ (ap not all) (released (nat_lt w.releases (length call.claims)) refl)) refl)) }
    where
      released : (b : Bool) → nat_lt w.releases (length call.claims) ≡ b → b ≡ false
      released true less =
          let c = entry_at call.claims w.releases (grind (arith, less)) in
          absurd (cc (sym none ∙ ap (λ (x : Option Claim). is_some x) (at ∙ c.1)))
      released false less = refl

-- ---- the lowest ticket that is not gone

-- where there is none, each is gone
pub none_left_gone : (ss : List Status) (t : ℕ) (x : Status) → position is_left ss ≡ None → slice_get ss t ≡ Some x → is_gone x ≡ true
none_left_gone ss t x none at = by_test (nat_lt (position_or_len is_left ss) (length ss)) refl none
  where
    by_test : (b : Bool) → nat_lt (position_or_len is_left ss) (length ss) ≡ b → ◌≡◌ {A = Option ℕ} (cond b (Some (position_or_len is_left ss)) None) None → is_gone x ≡ true
    by_test true is k = absurd (cc k)
    by_test false is k =
        let low = slice_get_within ss t x at in
        let past = lt_no (position_or_len is_left ss) (length ss) is in
        not_no (is_gone x) (ap is_left (sym (get_or_from_slice_get ss t x x at)) ∙ fails_before_first is_left ss t x (omega (arith, low, past)))

-- where there is one, it stands there and is not gone
pub record IsLowest (ss : List Status) (t : ℕ) : Type 0 where
  pub status : Status
  pub at : slice_get ss t ≡ Some status
  pub left : is_gone status ≡ false
  pub first : t ≡ position_or_len is_left ss

pub lowest_is : (ss : List Status) (t : ℕ) → position is_left ss ≡ Some t → IsLowest ss t
lowest_is ss t some = by_test (nat_lt (position_or_len is_left ss) (length ss)) refl some
  where
    gone_not : (x : Status) → is_left x ≡ true → is_gone x ≡ false
    gone_not Gone h = absurd (cc h)
    gone_not other h = refl

    by_test : (b : Bool) → nat_lt (position_or_len is_left ss) (length ss) ≡ b → ◌≡◌ {A = Option ℕ} (cond b (Some (position_or_len is_left ss)) None) (Some t) → IsLowest ss t
    by_test false is k = absurd (cc k)
    by_test true is k =
        let first : position_or_len is_left ss ≡ t = same_Some _ t k in
        let within : position_or_len is_left ss < length ss = grind (arith, is) in
        let x = entry_at ss t (omega (arith, within, first)) in
        let passes = passes_at_first is_left ss x.0 within in
        record {
          status = x.0;
          at = x.1;
          left = gone_not x.0 (ap is_left (sym (get_or_from_slice_get ss t x.0 x.0 x.1)) ∙ (ap (λ (n : ℕ). is_left (get_or ss n x.0)) (sym first) ∙ passes));
          first = sym first;
        }

-- each entry that is shown has its status in the queue
status_shown : {H : Type 0} (a : Inside H) (t : ℕ) → length a.execution.items ≡ length a.queue.entries
    → option_map (λ (e : Entered). e.status) (slice_get (shown a).state.entries t) ≡ slice_get (statuses a.queue) t
status_shown a t works =
    sym (slice_get-map (λ (e : Entered). e.status) (shown a).state.entries t)
    ∙ ap (λ (ss : List Status). slice_get ss t) (statuses_shown a.queue.entries a.execution.items works)

-- the front is the queue's
front_of : {H : Type 0} (a : Inside H) → length a.execution.items ≡ length a.queue.entries → front (shown a).state ≡ front_among (statuses a.queue)
front_of a works = machine_front (shown a).state ∙ ap front_among (statuses_shown a.queue.entries a.execution.items works)

-- where it does not run, it waits, and Front starts it
pub front_next : {H : Type 0} (places : H → ℕ → ℕ) (a : Inside H) (t : ℕ) → IsMachine places a → is_some (shown a).state.turn ≡ false → position is_left (statuses a.queue) ≡ Some t
    → None ≡ option_map (λ (e : Entered). e.call) (running (shown a).state t) → IsNext (opening_of places (shown a)) (shown a).state event.Front
front_next {H} places a t core closed some idle =
    record { other = refl; taken = goes_on _ _ _ closed (goes_with (front (shown a).state) t _ _ (front_of a core.works ∙ (front_at (statuses a.queue) t low.first ∙ waits low.status low.at low.left)) refl) }
  where
    low : IsLowest (statuses a.queue) t
    low = lowest_is (statuses a.queue) t some

    not_running : (x : Option Entered) → option_map (λ (e : Entered). e.status) x ≡ Some Running → None ≡ option_map (λ (e : Entered). e.call) (if_running x) → ⊥
    not_running None is none = cc is
    not_running (Some e) is none = cc (none ∙ ap (λ (b : Bool). option_map (λ (d : Entered). d.call) (if b then Some e else None)) (ap (λ (s : Status). is_running s) (same_Some e.status Running is)))

    waits : (x : Status) → slice_get (statuses a.queue) t ≡ Some x → is_gone x ≡ false → waiting_ticket t (slice_get (statuses a.queue) t) ≡ Some t
    waits Running at left = absurd (not_running (slice_get (shown a).state.entries t) (status_shown a t core.works ∙ at) idle)
    waits Waiting at left = ap (waiting_ticket t) at
    waits Gone at left = absurd (cc left)

-- where each is gone, and no turn is open, the machine is at its end
pub ends_here : {H : Type 0} {places : H → ℕ → ℕ} (a : Inside H) → IsMachine places a → (shown a).state.turn ≡ None → position is_left (statuses a.queue) ≡ None → IsAtEnd (shown a).base (shown a).state
ends_here {H} {places} a core closed none =
    at_end (opening_of places (shown a)) (shown a).state core.reached closed
    (λ t e at. none_left_gone (statuses a.queue) t e.status none (sym (status_shown a t core.works) ∙ ap (option_map (λ (d : Entered). d.status)) at))

-- ---- how much is left

few_claims : (c : Catalog) (call : Call) → IsCatalog c → IsReady c call → length call.claims ≤ MOST_CLAIMS
few_claims c call catalog ready = let well : CallsProcedure c call = ready_well c call catalog ready in claims_few c.records well.procedure call well.formed well.made

few_steps : (e : Entered) → length e.call.claims ≤ MOST_CLAIMS → steps_left e ≤ 3 * MOST_CLAIMS + 2
few_steps e few = let most = entry_most e in let fit = most_fits e.status in omega (arith, most, fit)
  where
    most_fits : (s : Status) → most_of (record e { status = s }) ≤ 3 * MOST_CLAIMS + 2
    most_fits Gone = omega arith
    most_fits other = omega (arith, few)

pub few_left : {H : Type 0} (places : H → ℕ → ℕ) (a : Inside H) → IsMachine places a → left (shown a).state < 2 ^ 32
few_left {H} places a core =
    let total = sum_by-le steps_left (3 * MOST_CLAIMS + 2) (shown a).state.entries each in
    let within = (kept_reached (opening_of places (shown a)) (shown a).state core.reached).room in
    let few = core.queue.few_calls in
    let turn = turn_few a.turn core.turn_ready in
    omega (arith, total, within, few, turn)
  where
    each : All (λ (e : Entered). steps_left e ≤ 3 * MOST_CLAIMS + 2) (shown a).state.entries
    each k d lt =
        let at = slice_get-get_or (shown a).state.entries k d lt in
        let there = shown_at a.queue.entries a.execution.items k _ at in
        let ready = all_at (λ (x : QueueEntry). IsReady a.library.value x.line.call) a.queue.entries k there.entry core.entries_ready there.at in
        few_steps (get_or (shown a).state.entries k d)
        (subst (λ (x : Entered). length x.call.claims ≤ MOST_CLAIMS) (sym there.is) (few_claims a.library.value there.entry.line.call core.catalog ready))

    turn_few : (x : Option OpenTurn) → IfSome x (λ (u : OpenTurn). IsReady a.library.value u.call) → turn_left (turn_of x) ≤ 4 * MOST_CLAIMS + 3
    turn_few None ready = omega arith
    turn_few (Some u) ready = let few = few_claims a.library.value u.call core.catalog ready in omega (arith, few)
