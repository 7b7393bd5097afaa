-- The moves of the plain machine, each with the state that it results in.
use Rattle.std.proofs.Common.{◌≡◌, ℕ, ◌+◌, ◌<◌, ◌≤◌, ◌||◌, Bool, true, false, not, nat_lt, nat_le, refl, ap, ◌∙◌, arith, [], ◌∷◌, ◌++◌, length, slice_get, Option, Some, None, is_some, Ok, if◌then◌else◌}
use Rattle.vll_counters.proofs.Common.{Claim, Call, Status, Running, Waiting, Gone, is_waiting, Seen, Opening, Entered, Turn, State, counter, value, is_clear, reply_at, Outcome, refuse_if, or_refuse, running, with_entry, with_status, has_stored, admit, enter, waiting, move, wake, hand, if_waiting}
use Rattle.vll_core.specs.declared.event.Event.TheVariants as event
use Rattle.vll_core.specs.declared.seen.Seen.TheVariants.{Opened, Free, Blocked, Run, Loaded, Stored, Released, Replied}
use Rattle.vll_core.specs.declared.refusal.Refusal.TheVariants.{TurnOpen, NoTurn, Spent, Busy, NotRunning, OutOfStep, Idle}
use Rattle.vll_core.specs.Machine.{step}

pub load_made : (o : Opening) (s : State) (t : ℕ) (e : Entered) (c : Claim) → running s t ≡ Some e → slice_get e.call.claims e.loads ≡ Some c
    → step o s (event.Load t) ≡ Ok (Loaded (value o.base s c.id), with_entry s t (record e { loads = e.loads + 1 }))
load_made o s t e c runs left =
    ap (λ (x : Option Entered). or_refuse x NotRunning (λ d. or_refuse (slice_get d.call.claims d.loads) OutOfStep (λ k. Ok (Loaded (value o.base s k.id), with_entry s t (record d { loads = d.loads + 1 }))))) runs
    ∙ ap (λ (x : Option Claim). or_refuse x OutOfStep (λ k. Ok (Loaded (value o.base s k.id), with_entry s t (record e { loads = e.loads + 1 })))) left

pub store_made : (o : Opening) (s : State) (t : ℕ) (e : Entered) → running s t ≡ Some e → nat_lt e.loads (length e.call.claims) ≡ false → has_stored o.base s t e ≡ false
    → step o s (event.Store t) ≡ Ok (Stored, with_entry s t (record e { stores = e.stores + 1 }))
store_made o s t e runs loaded left =
    ap (λ (x : Option Entered). or_refuse x NotRunning (λ d. refuse_if (nat_lt d.loads (length d.call.claims) || has_stored o.base s t d) OutOfStep (Ok (Stored, with_entry s t (record d { stores = d.stores + 1 }))))) runs
    ∙ ap (λ (b : Bool). refuse_if (b || has_stored o.base s t e) OutOfStep (Ok (Stored, with_entry s t (record e { stores = e.stores + 1 })))) loaded
    ∙ ap (λ (b : Bool). refuse_if b OutOfStep (Ok (Stored, with_entry s t (record e { stores = e.stores + 1 })))) left

pub release_made : (o : Opening) (s : State) (t : ℕ) (e : Entered) (c : Claim) → running s t ≡ Some e → has_stored o.base s t e ≡ true → slice_get e.call.claims e.releases ≡ Some c
    → step o s (event.Release t) ≡ Ok (Released (counter s c.id), with_entry s t (record e { releases = e.releases + 1 }))
release_made o s t e c runs all left =
    ap (λ (x : Option Entered). or_refuse x NotRunning (λ d. refuse_if (not (has_stored o.base s t d)) OutOfStep (releases d))) runs
    ∙ ap (λ (b : Bool). refuse_if (not b) OutOfStep (releases e)) all
    ∙ ap (λ (x : Option Claim). or_refuse x OutOfStep (λ k. Ok (Released (counter s k.id), with_entry s t (record e { releases = e.releases + 1 })))) left
  where
    releases : Entered → Outcome
    releases d = or_refuse (slice_get d.call.claims d.releases) OutOfStep (λ k. Ok (Released (counter s k.id), with_entry s t (record d { releases = d.releases + 1 })))

pub finish_made : (o : Opening) (s : State) (t : ℕ) (e : Entered) → s.turn ≡ None → running s t ≡ Some e → has_stored o.base s t e ≡ true → nat_lt e.releases (length e.call.claims) ≡ false
    → step o s (event.Finish t) ≡ Ok (Replied (reply_at o.base s t e), with_entry s t (record e { status = Gone }))
finish_made o s t e closed runs all none =
    ap (λ (x : Option Turn). refuse_if (is_some x) TurnOpen (or_refuse (running s t) NotRunning (λ d. ends d))) closed
    ∙ ap (λ (x : Option Entered). or_refuse x NotRunning (λ d. ends d)) runs
    ∙ ap (λ (b : Bool). refuse_if (not b || nat_lt e.releases (length e.call.claims)) OutOfStep (Ok (Replied (reply_at o.base s t e), with_entry s t (record e { status = Gone })))) all
    ∙ ap (λ (b : Bool). refuse_if b OutOfStep (Ok (Replied (reply_at o.base s t e), with_entry s t (record e { status = Gone })))) none
  where
    ends : Entered → Outcome
    ends d = refuse_if (not (has_stored o.base s t d) || nat_lt d.releases (length d.call.claims)) OutOfStep (Ok (Replied (reply_at o.base s t d), with_entry s t (record d { status = Gone })))

pub wake_made : (o : Opening) (s : State) (t : ℕ) (e : Entered) → slice_get s.entries t ≡ Some e → is_waiting e.status ≡ true → is_clear s t e.call.claims ≡ true
    → move o s (wake t) ≡ Ok (Run t, with_entry s t (record e { status = Running }))
wake_made o s t e at waits clear =
    ap (λ (x : Option Entered). or_refuse (if_waiting x) Idle (λ d. runs d)) at
    ∙ ap (λ (b : Bool). or_refuse (if b then Some e else None) Idle (λ d. runs d)) waits
    ∙ ap (λ (b : Bool). refuse_if (not b) Idle (Ok (Run t, with_status s t Running))) clear
    ∙ ap (λ (x : Option Entered). let out : Outcome = Ok (Run t, elim x [ None ↦ s | Some d ↦ with_entry s t (record d { status = Running }) ]) in out) at
  where
    runs : Entered → Outcome
    runs d = refuse_if (not (is_clear s t d.call.claims)) Idle (Ok (Run t, with_status s t Running))

-- a turn that has opened
abbrev pub opened_turn : ℕ → Call → Turn
opened_turn client call = record { client = client; call = call; requested = 0; granted = true }

pub hand_made : (o : Opening) (s : State) (client : ℕ) (call : Call) → s.turn ≡ None → length s.entries < o.limit → waiting s < o.cap
    → move o s (hand client call) ≡ Ok (Opened, record s { turn = Some (opened_turn client call) })
hand_made o s client call closed room few =
    let left : nat_le o.limit (length s.entries) ≡ false = grind (arith, room) in
    let fits : nat_le o.cap (waiting s) ≡ false = grind (arith, few) in
    ap (λ (x : Option Turn). refuse_if (is_some x) TurnOpen (enter o s client (Some call) s.scripts s.kept)) closed
    ∙ ap (λ (b : Bool). refuse_if b Spent (refuse_if (nat_le o.cap (waiting s)) Busy opens)) left
    ∙ ap (λ (b : Bool). refuse_if b Busy opens) fits
  where
    opens : Outcome
    opens = Ok (Opened, record s { turn = Some (opened_turn client call) })

-- the entry of a turn's call
abbrev pub entry_of_turn : Turn → Entered
entry_of_turn turn = record { client = turn.client; call = turn.call; status = if turn.granted then Running else Waiting; loads = 0; stores = 0; releases = 0 }

-- the state once the turn's call has entered
abbrev pub after_admit : State → Turn → State
after_admit s turn = record s { entries = s.entries ++ entry_of_turn turn ∷ []; turn = None }

abbrev pub admit_seen : State → Turn → Seen
admit_seen s turn = if turn.granted then Free (length s.entries) else Blocked (length s.entries)

pub admit_made : (o : Opening) (s : State) (turn : Turn) → s.turn ≡ Some turn → length turn.call.claims ≤ turn.requested
    → step o s event.Admit ≡ Ok (admit_seen s turn, after_admit s turn)
admit_made o s turn is asked =
    let none_left : nat_lt turn.requested (length turn.call.claims) ≡ false = grind (arith, asked) in
    ap (λ (x : Option Turn). or_refuse x NoTurn (λ (t : Turn). refuse_if (nat_lt t.requested (length t.call.claims)) OutOfStep (admit s t))) is
    ∙ ap (λ (b : Bool). refuse_if b OutOfStep (admit s turn)) none_left
    ∙ by_grant turn.granted
  where
    next : Status → State
    next status = record s { entries = s.entries ++ record { client = turn.client; call = turn.call; status = status; loads = 0; stores = 0; releases = 0 } ∷ []; turn = None }

    by_grant : (b : Bool) → ◌≡◌ {A = Outcome} (if b then Ok (Free (length s.entries), next Running) else Ok (Blocked (length s.entries), next Waiting))
        (Ok ((if b then Free (length s.entries) else Blocked (length s.entries)), next (if b then Running else Waiting)))
    by_grant true = refl
    by_grant false = refl
