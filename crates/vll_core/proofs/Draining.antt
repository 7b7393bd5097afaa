-- Every event but Find, Enter and Scan lessens what is left to do, and leaves no turn open where none was.
use Rattle.std.proofs.Common.{◌≡◌, ℕ, ◌+◌, ◌*◌, ◌-◌, ◌<◌, ◌≤◌, ◌≢◌, Bool, true, false, ◌==◌, [], ◌∷◌, length, slice_get, get_or, Option, Some, None, Ok, refl, ap, arith}
use Rattle.vll_core.proofs.Common.{count_by-le-length, length-filter, sum_by-append, sum_by-set, sum_by-le-sum_by, or_parts, slice_get_within, get_or_from_slice_get, is_write, Call, Status, Running, Waiting, Gone, is_waiting, is_running, Event, Seen, Opening, Entered, State, Turn, writes, has_aborted, step, with_entry, Move, by_event, IsReached, begins_or_scans, most_of, most_of_turn, most_events, steps_left, turn_left, left}
use Rattle.vll_core.proofs.Tests.{and_rest, lt_no, eq_no, eq_same}
use Rattle.vll_core.proofs.Kept.{IsKept}
use Rattle.vll_core.proofs.Changes.{Change, change_of, requested, admitted, fronted, loaded, stored, released, finished}
use Rattle.vll_core.proofs.Reached.{kept_reached}

-- a call writes no more records than it claims
few_writes : (call : Call) → length (writes call) ≤ length call.claims
few_writes call = omega (arith, length-filter is_write call.claims, count_by-le-length is_write call.claims)

-- the steps that a call has left, by its status
waits_left : (e : Entered) → is_waiting e.status ≡ true
    → steps_left e ≡ 1 + (length e.call.claims - e.loads) + (length (writes e.call) - e.stores) + (length e.call.claims - e.releases) + 1
waits_left e waits = by_status e.status waits
  where
    steps : Status → ℕ
    steps s = steps_left (record e { status = s })

    by_status : (s : Status) → is_waiting s ≡ true → steps s ≡ 1 + (length e.call.claims - e.loads) + (length (writes e.call) - e.stores) + (length e.call.claims - e.releases) + 1
    by_status Waiting h = refl
    by_status other h = absurd (cc h)

runs_left : (e : Entered) → is_running e.status ≡ true
    → steps_left e ≡ (length e.call.claims - e.loads) + (length (writes e.call) - e.stores) + (length e.call.claims - e.releases) + 1
runs_left e runs = by_status e.status runs
  where
    steps : Status → ℕ
    steps s = steps_left (record e { status = s })

    by_status : (s : Status) → is_running s ≡ true → steps s ≡ (length e.call.claims - e.loads) + (length (writes e.call) - e.stores) + (length e.call.claims - e.releases) + 1
    by_status Running h = omega arith
    by_status other h = absurd (cc h)

-- where one entry has less left, less is left
less_put : (s : State) (t : ℕ) (e f : Entered) → slice_get s.entries t ≡ Some e → steps_left f < steps_left e → left (with_entry s t f) < left s
less_put s t e f at less =
    let sums = sum_by-set steps_left s.entries t f e (slice_get_within s.entries t e at) in
    let old : steps_left (get_or s.entries t e) ≡ steps_left e = ap steps_left (get_or_from_slice_get s.entries t e e at) in
    omega (arith, sums, old, less)

-- what a new call has left
new_left : (call : Call) (client : ℕ) (status : Status) → steps_left (record { client = client; call = call; status = status; loads = 0; stores = 0; releases = 0 }) ≤ 3 * length call.claims + 2
new_left call client Gone = omega arith
new_left call client other = omega (arith, few_writes call)

abbrev other : Move → Bool
other (by_event e) = begins_or_scans e
other m = true

less_change : (o : Opening) (s : State) (m : Move) (next : State) → IsKept o s → Change o s m next → other m ≡ false → left next < left s
less_change o s m next kept (requested turn c is at) not =
    let turn_now : turn_left s.turn ≡ turn_left (Some turn) = ap turn_left is in
    let within = slice_get_within turn.call.claims turn.requested c at in
    omega (arith, turn_now, within)
less_change o s m next kept (admitted turn status is all here free) not =
    let new : Entered = record { client = turn.client; call = turn.call; status = status; loads = 0; stores = 0; releases = 0 } in
    let turn_now : turn_left s.turn ≡ turn_left (Some turn) = ap turn_left is in
    let more = sum_by-append steps_left s.entries (new ∷ []) in
    let few = new_left turn.call turn.client status in
    omega (arith, turn_now, more, few)
less_change o s m next kept (fronted t f) not =
    let old = waits_left f.entry f.waits in
    let new = runs_left (record f.entry { status = Running }) refl in
    less_put s t f.entry _ f.at (omega (arith, old, new))
less_change o s m next kept (loaded t e c at runs more) not =
    let old = runs_left e runs in
    let new = runs_left (record e { loads = e.loads + 1 }) runs in
    let within = slice_get_within e.call.claims e.loads c more in
    less_put s t e _ at (omega (arith, old, new, within))
less_change o s m next kept (stored t e at runs all more) not =
    let old = runs_left e runs in
    let new = runs_left (record e { stores = e.stores + 1 }) runs in
    let own = kept.entries t e at in
    let loads : e.loads ≡ length e.call.claims = (let a = lt_no e.loads (length e.call.claims) all in let b = own.loads in omega (arith, a, b)) in
    let some : e.stores ≢ length (writes e.call) =
    eq_no e.stores (length (writes e.call)) (or_parts (has_aborted o.base s t e) (e.stores == length (writes e.call)) (and_rest _ _ more (eq_same e.loads (length e.call.claims) loads))).1 in
    let within = own.stores in
    less_put s t e _ at (omega (arith, old, new, some, within))
less_change o s m next kept (released t e c at runs all more) not =
    let old = runs_left e runs in
    let new = runs_left (record e { releases = e.releases + 1 }) runs in
    let within = slice_get_within e.call.claims e.releases c more in
    less_put s t e _ at (omega (arith, old, new, within))
less_change o s m next kept (finished t e at runs all) not =
    less_put s t e _ at (omega (arith, runs_left e runs))
less_change o s m next kept change not = absurd (cc not)

-- an event that is none of Find, Enter and Scan lessens what is left
pub less_left : (o : Opening) (s : State) (e : Event) (out : Seen × State) → IsReached o s → begins_or_scans e ≡ false → step o s e ≡ Ok out → left out.1 < left s
less_left o s e out reached not is = less_change o s (by_event e) out.1 (kept_reached o s reached) (change_of o s (by_event e) out is) not

-- an entry and a turn have no more left than `most_of` and `most_of_turn`
pub entry_most : (e : Entered) → steps_left e ≤ most_of e
entry_most e = by_status e.status
  where
    by_status : (s : Status) → steps_left (record e { status = s }) ≤ most_of (record e { status = s })
    by_status Gone = omega arith
    by_status other = omega (arith, few_writes e.call)

turn_most : (x : Option Turn) → turn_left x ≤ most_of_turn x
turn_most None = omega arith
turn_most (Some turn) = omega arith

-- and a state no more than `most_events`
pub left_most : (s : State) → left s ≤ most_events s
left_most s = omega (arith, sum_by-le-sum_by steps_left most_of s.entries entry_most, turn_most s.turn)
