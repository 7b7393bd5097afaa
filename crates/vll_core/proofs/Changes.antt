-- What a lawful move that is not refused changes, case by case.
use Rattle.std.proofs.Common.{◌≡◌, ℕ, Bool, true, false, ◌&&◌, not, refl, sym, ◌||◌, nat_lt, nat_le, ◌+◌, [], ◌∷◌, length, ap, ◌∙◌, subst, slice_get, Some, ◌++◌, map, Option, None, if◌then◌else◌, Ok, is_some}
use Rattle.vll_core.proofs.Common.{same_Some, step, with_entry, has_stored, running, next_call, used, is_turn_of, keeping, ready, front, scanned, waiting, Outcome, refuse_if, or_refuse, if_running, with_status, admit, catalog_of, Entered, State, Turn, is_clear, value, Opening, open_claims, Claim, conflict, or_parts, Move, by_event, wake, hand, if_waiting, move, Call, source, Status, is_waiting, is_gone, is_running, Running, Gone, Waiting, Refusal, Loaded, Free, Blocked, Seen, scan}
use Rattle.vll_core.specs.declared.event.Event.TheVariants as event
use Rattle.vll_core.proofs.Tests.{not_no}
use Rattle.vll_core.proofs.Events.{IsFront, front_is}
use Rattle.vll_core.proofs.Picked.{IsPicked, picked_is}

pub data Change (o : Opening) (s : State) : Move → State → Type 0 where
  sourced : (client : ℕ) (call : Call) (r : ℕ) → next_call s client ≡ Some call → source (catalog_of o.base) call ≡ Some r
      → Change o s (by_event (event.Find client)) (record s { kept = keeping s client (Some (value o.base s r)) })
  entered_by : (client : ℕ) (next call : Call) → s.turn ≡ None → next_call s client ≡ Some next → ready o.base s client next ≡ Some call → nat_le o.limit (length s.entries) ≡ false → nat_le o.cap (waiting s) ≡ false
      → Change o s (by_event (event.Enter client)) (record s { turn = Some (record { client = client; call = call; requested = 0; granted = true }); scripts = used s client; kept = keeping s client None })
  handed : (client : ℕ) (call : Call) → s.turn ≡ None → nat_le o.limit (length s.entries) ≡ false → nat_le o.cap (waiting s) ≡ false
      → Change o s (hand client call) (record s { turn = Some (record { client = client; call = call; requested = 0; granted = true }); scripts = s.scripts; kept = s.kept })
  requested : (turn : Turn) (c : Claim) → s.turn ≡ Some turn → slice_get turn.call.claims turn.requested ≡ Some c
      → Change o s (by_event event.Claim) (record s { turn = Some (record turn { requested = turn.requested + 1; granted = turn.granted && not (conflict (open_claims s) (c ∷ [])) }) })
  admitted : (turn : Turn) (status : Status) → s.turn ≡ Some turn → nat_lt turn.requested (length turn.call.claims) ≡ false → is_gone status ≡ false → (is_waiting status ≡ false → turn.granted ≡ true)
      → Change o s (by_event event.Admit) (record s { entries = s.entries ++ record { client = turn.client; call = turn.call; status = status; loads = 0; stores = 0; releases = 0 } ∷ []; turn = None })
  fronted : (t : ℕ) (f : IsFront s t) → Change o s (by_event event.Front) (with_entry s t (record f.entry { status = Running }))
  picked : (t : ℕ) (p : IsPicked s t) → Change o s (by_event event.Scan) (with_entry s t (record p.entry { status = Running }))
  woken : (t : ℕ) (e : Entered) → slice_get s.entries t ≡ Some e → is_waiting e.status ≡ true → is_clear s t e.call.claims ≡ true → Change o s (wake t) (with_entry s t (record e { status = Running }))
  loaded : (t : ℕ) (e : Entered) (c : Claim) → slice_get s.entries t ≡ Some e → is_running e.status ≡ true → slice_get e.call.claims e.loads ≡ Some c
      → Change o s (by_event (event.Load t)) (with_entry s t (record e { loads = e.loads + 1 }))
  stored : (t : ℕ) (e : Entered) → slice_get s.entries t ≡ Some e → is_running e.status ≡ true → nat_lt e.loads (length e.call.claims) ≡ false → has_stored o.base s t e ≡ false
      → Change o s (by_event (event.Store t)) (with_entry s t (record e { stores = e.stores + 1 }))
  released : (t : ℕ) (e : Entered) (c : Claim) → slice_get s.entries t ≡ Some e → is_running e.status ≡ true → has_stored o.base s t e ≡ true → slice_get e.call.claims e.releases ≡ Some c
      → Change o s (by_event (event.Release t)) (with_entry s t (record e { releases = e.releases + 1 }))
  finished : (t : ℕ) (e : Entered) → slice_get s.entries t ≡ Some e → is_running e.status ≡ true → nat_lt e.releases (length e.call.claims) ≡ false
      → Change o s (by_event (event.Finish t)) (with_entry s t (record e { status = Gone }))

-- what follows from an answer about the tests before it
refused_not : (b : Bool) (why : Refusal) (go : Outcome) (out : Seen × State) → refuse_if b why go ≡ Ok out → (b ≡ false) × (go ≡ Ok out)
refused_not true why go out h = absurd (cc h)
refused_not false why go out h = (refl, h)

found : {A : Type 0} (x : Option A) (why : Refusal) (go : A → Outcome) (out : Seen × State) → or_refuse x why go ≡ Ok out → (a : A) × (x ≡ Some a) × (go a ≡ Ok out)
found None why go out h = absurd (cc h)
found (Some a) why go out h = (a, refl, h)

same_state : (seen : Seen) (a : State) (out : Seen × State) → ◌≡◌ {A = Outcome} (Ok (seen, a)) (Ok out) → a ≡ out.1
same_state seen a out h = ap (λ (x : Seen × State). x.1) (pair (seen, a) out h)
  where
    pair : (x y : Seen × State) → ◌≡◌ {A = Outcome} (Ok x) (Ok y) → x ≡ y
    pair x y k = cc k

no_turn : (x : Option Turn) → is_some x ≡ false → x ≡ None
no_turn None h = refl
no_turn (Some t) h = absurd (cc h)

pub entry_runs : (x : Option Entered) (e : Entered) → if_running x ≡ Some e → (x ≡ Some e) × (is_running e.status ≡ true)
entry_runs None e h = absurd (cc h)
entry_runs (Some d) e h = step (is_running d.status) refl h
  where
    step : (b : Bool) → is_running d.status ≡ b → (if b then Some d else None) ≡ Some e → (Some d ≡ Some e) × (is_running e.status ≡ true)
    step true is k = (k, ap (λ (x : Entered). is_running x.status) (sym (same_Some d e k)) ∙ is)
    step false is k = absurd (cc k)

entry_waits : (x : Option Entered) (e : Entered) → if_waiting x ≡ Some e → (x ≡ Some e) × (is_waiting e.status ≡ true)
entry_waits None e h = absurd (cc h)
entry_waits (Some d) e h = step (is_waiting d.status) refl h
  where
    step : (b : Bool) → is_waiting d.status ≡ b → (if b then Some d else None) ≡ Some e → (Some d ≡ Some e) × (is_waiting e.status ≡ true)
    step true is k = (k, ap (λ (x : Entered). is_waiting x.status) (sym (same_Some d e k)) ∙ is)
    step false is k = absurd (cc k)

status_put : (s : State) (t : ℕ) (e : Entered) (status : Status) → slice_get s.entries t ≡ Some e → with_status s t status ≡ with_entry s t (record e { status = status })
status_put s t e status at = step (slice_get s.entries t) at
  where
    step : (x : Option Entered) → x ≡ Some e → elim x as (λ _. State) [ None ↦ s | Some d ↦ with_entry s t (record d { status = status }) ] ≡ with_entry s t (record e { status = status })
    step None h = absurd (cc h)
    step (Some d) h = ap (λ (x : Entered). with_entry s t (record x { status = status })) (same_Some d e h)

-- a ticket begins to run
run_change : (o : Opening) (s : State) (m : Move) (t : ℕ) (e : Entered) (seen : Seen) (out : Seen × State) → slice_get s.entries t ≡ Some e
    → Change o s m (with_entry s t (record e { status = Running })) → ◌≡◌ {A = Outcome} (Ok (seen, with_status s t Running)) (Ok out) → Change o s m out.1
run_change o s m t e seen out at change h = subst (Change o s m) (sym (status_put s t e Running at) ∙ same_state seen (with_status s t Running) out h) change

-- what a load answers
pub record IsLoad (o : Opening) (s : State) (t : ℕ) (out : Seen × State) : Type 0 where
  pub entry : Entered
  pub claim : Claim
  pub at : slice_get s.entries t ≡ Some entry
  pub runs : is_running entry.status ≡ true
  pub next : slice_get entry.call.claims entry.loads ≡ Some claim
  pub seen : out ≡ (Loaded (value o.base s claim.id), with_entry s t (record entry { loads = entry.loads + 1 }))

pub load_is : (o : Opening) (s : State) (t : ℕ) (out : Seen × State) → step o s (event.Load t) ≡ Ok out → IsLoad o s t out
load_is o s t out h =
    let a = found (running s t) _ _ out h in
    let runs = entry_runs (slice_get s.entries t) a.0 a.1 in
    let c = found (slice_get a.0.call.claims a.0.loads) _ _ out a.2 in
    record { entry = a.0; claim = c.0; at = runs.0; runs = runs.1; next = c.1; seen = pair _ out c.2 }
  where
    pair : (x y : Seen × State) → ◌≡◌ {A = Outcome} (Ok x) (Ok y) → y ≡ x
    pair x y k = cc k

-- what a store changes
pub record IsStore (o : Opening) (s : State) (t : ℕ) (next : State) : Type 0 where
  pub entry : Entered
  pub at : slice_get s.entries t ≡ Some entry
  pub runs : is_running entry.status ≡ true
  pub loaded : nat_lt entry.loads (length entry.call.claims) ≡ false
  pub left : has_stored o.base s t entry ≡ false
  pub is : with_entry s t (record entry { stores = entry.stores + 1 }) ≡ next

pub store_is : (o : Opening) (s : State) (t : ℕ) (out : Seen × State) → step o s (event.Store t) ≡ Ok out → IsStore o s t out.1
store_is o s t out h =
    let a = found (running s t) _ _ out h in
    let runs = entry_runs (slice_get s.entries t) a.0 a.1 in
    let b = refused_not (nat_lt a.0.loads (length a.0.call.claims) || has_stored o.base s t a.0) _ _ out a.2 in
    let both = or_parts _ _ b.0 in
    record { entry = a.0; at = runs.0; runs = runs.1; loaded = both.0; left = both.1; is = same_state _ _ out b.1 }

abbrev admitted_state : State → Turn → Status → State
admitted_state s turn status = record s { entries = s.entries ++ record { client = turn.client; call = turn.call; status = status; loads = 0; stores = 0; releases = 0 } ∷ []; turn = None }

admit_change : (o : Opening) (s : State) (turn : Turn) (out : Seen × State) → s.turn ≡ Some turn → nat_lt turn.requested (length turn.call.claims) ≡ false
    → admit s turn ≡ Ok out → Change o s (by_event event.Admit) out.1
admit_change o s turn out is all h = step turn.granted refl h
  where
    step : (b : Bool) → turn.granted ≡ b
        → if◌then◌else◌ {A = Outcome} b (Ok (Free (length s.entries), admitted_state s turn Running)) (Ok (Blocked (length s.entries), admitted_state s turn Waiting)) ≡ Ok out
        → Change o s (by_event event.Admit) out.1
    step true g k = subst (Change o s (by_event event.Admit)) (same_state _ _ out k) (admitted turn Running is all refl (λ w. g))
    step false g k = subst (Change o s (by_event event.Admit)) (same_state _ _ out k) (admitted turn Waiting is all refl (λ w. absurd (cc w)))

pub change_of : (o : Opening) (s : State) (m : Move) (out : Seen × State) → move o s m ≡ Ok out → Change o s m out.1
change_of o s (by_event (event.Find client)) out h =
    let a = refused_not (is_turn_of client s.turn) _ _ out h in
    let b = found (next_call s client) _ _ out a.1 in
    let c = found (source (catalog_of o.base) b.0) _ _ out b.2 in
    subst (Change o s (by_event (event.Find client))) (same_state _ _ out c.2) (sourced client b.0 c.0 b.1 c.1)
change_of o s (by_event (event.Enter client)) out h =
    let a = refused_not (is_some s.turn) _ _ out h in
    let b = found (next_call s client) _ _ out a.1 in
    let c = refused_not (nat_le o.limit (length s.entries)) _ _ out b.2 in
    let d = refused_not (nat_le o.cap (waiting s)) _ _ out c.1 in
    let e = found (ready o.base s client b.0) _ _ out d.1 in
    subst (Change o s (by_event (event.Enter client))) (same_state _ _ out e.2) (entered_by client b.0 e.0 (no_turn s.turn a.0) b.1 e.1 c.0 d.0)
change_of o s (by_event event.Claim) out h =
    let a = found s.turn _ _ out h in
    let b = found (slice_get a.0.call.claims a.0.requested) _ _ out a.2 in
    subst (Change o s (by_event event.Claim)) (same_state _ _ out b.2) (requested a.0 b.0 a.1 b.1)
change_of o s (by_event event.Admit) out h =
    let a = found s.turn _ _ out h in
    let b = refused_not (nat_lt a.0.requested (length a.0.call.claims)) _ _ out a.2 in
    admit_change o s a.0 out a.1 b.0 b.1
change_of o s (by_event event.Front) out h =
    let a = refused_not (is_some s.turn) _ _ out h in
    let b = found (front s) _ _ out a.1 in
    let f = front_is s b.0 b.1 in
    run_change o s (by_event event.Front) b.0 f.entry _ out f.at (fronted b.0 f) b.2
change_of o s (by_event event.Scan) out h =
    let a = refused_not (is_some s.turn) _ _ out h in
    let b = found (scan o.place o.bits (map scanned s.entries)) _ _ out a.1 in
    let p = picked_is o.place o.bits s b.0 b.1 in
    run_change o s (by_event event.Scan) b.0 p.entry _ out p.at (picked b.0 p) b.2
change_of o s (by_event (event.Load t)) out h =
    let l = load_is o s t out h in
    subst (Change o s (by_event (event.Load t))) (ap (λ (x : Seen × State). x.1) (sym l.seen)) (loaded t l.entry l.claim l.at l.runs l.next)
change_of o s (by_event (event.Store t)) out h =
    let l = store_is o s t out h in
    subst (Change o s (by_event (event.Store t))) l.is (stored t l.entry l.at l.runs l.loaded l.left)
change_of o s (by_event (event.Release t)) out h =
    let a = found (running s t) _ _ out h in
    let runs = entry_runs (slice_get s.entries t) a.0 a.1 in
    let b = refused_not (not (has_stored o.base s t a.0)) _ _ out a.2 in
    let c = found (slice_get a.0.call.claims a.0.releases) _ _ out b.1 in
    subst (Change o s (by_event (event.Release t))) (same_state _ _ out c.2) (released t a.0 c.0 runs.0 runs.1 (not_no _ b.0) c.1)
change_of o s (by_event (event.Finish t)) out h =
    let a = refused_not (is_some s.turn) _ _ out h in
    let b = found (running s t) _ _ out a.1 in
    let runs = entry_runs (slice_get s.entries t) b.0 b.1 in
    let c = refused_not (not (has_stored o.base s t b.0) || nat_lt b.0.releases (length b.0.call.claims)) _ _ out b.2 in
    subst (Change o s (by_event (event.Finish t))) (same_state _ _ out c.1) (finished t b.0 runs.0 runs.1 (or_parts _ _ c.0).1)
change_of o s (wake t) out h =
    let a = found (if_waiting (slice_get s.entries t)) _ _ out h in
    let at = entry_waits (slice_get s.entries t) a.0 a.1 in
    let b = refused_not (not (is_clear s t a.0.call.claims)) _ _ out a.2 in
    run_change o s (wake t) t a.0 _ out at.0 (woken t a.0 at.0 at.1 (not_no _ b.0)) b.1
change_of o s (hand client call) out h =
    let a = refused_not (is_some s.turn) _ _ out h in
    let c = refused_not (nat_le o.limit (length s.entries)) _ _ out a.1 in
    let d = refused_not (nat_le o.cap (waiting s)) _ _ out c.1 in
    subst (Change o s (hand client call)) (same_state _ _ out d.1) (handed client call (no_turn s.turn a.0) c.0 d.0)
