-- A turn opens, for the next call of a client's script or for one that is handed in.
use Rattle.std.proofs.Common.{◌≡◌, ℕ, zero, suc, ◌+◌, ◌^◌, ◌<◌, ◌≤◌, ◌↔◌, Bool, true, false, IsTrue, nat_le, refl, sym, ap, ◌∙◌, subst, arith, List, [], ◌∷◌, length, count_by, drop, slice_get, slice_set, Option, Some, None, is_some, IfSome, Result, Ok, Err, add-one, length-set, All}
use Rattle.vll_core.proofs.Common.{option_map, with_item, Vec, same_Some, slice_get_within, Call, source, with_found, Fits, IsReady, Catalog, IsCatalog, Inside, Refusal, TurnOpen, NoCall, Spent, Busy, OutOfStep, Opened, Status, is_waiting, Base, catalog_of, Entered, Opening, State, Outcome, refuse_if, or_refuse, waiting, first_call, next_call, rest_of, used, kept_for, keeping, ready, enter, step, hand, move, moved, statuses, Shown, library_of, opening_of, turn_of, left_of, shown, IsMachine}
use Rattle.vll_core.specs.declared.event.Event.TheVariants as event
use Rattle.vll_core.proofs.Tests.{le_no}
use Rattle.vll_core.proofs.Places.{all_at, entry_at}
use Rattle.vll_core.proofs.Fitted.{proper_ready}
use Rattle.vll_core.proofs.WordsKept.{words_stay}
use Rattle.vll_core.proofs.MachineState.{length_shown, counted_shown, waiting_shown}
use Rattle.vll_core.proofs.MachineSteps.{library_same, Takes, taken_reached, taken_words}

-- ---- the plain machine

-- a client's calls that are left
left_at : (vs : List (Vec Call)) (ns : List ℕ) (t n : ℕ) (v : Vec Call) → slice_get vs t ≡ Some v → slice_get ns t ≡ Some n → slice_get (left_of vs ns) t ≡ Some (drop n v.items)
left_at [] ns t n v at has = absurd (cc at)
left_at (w ∷ vs) [] t n v at has = absurd (cc has)
left_at (w ∷ vs) (m ∷ ns) zero n v at has = rw (same_Some w v at, same_Some m n has) refl
left_at (w ∷ vs) (m ∷ ns) (suc t) n v at has = left_at vs ns t n v at has

left_none : (vs : List (Vec Call)) (ns : List ℕ) (t : ℕ) → slice_get vs t ≡ None → slice_get (left_of vs ns) t ≡ None
left_none [] ns t none = refl
left_none (v ∷ vs) [] t none = refl
left_none (v ∷ vs) (n ∷ ns) zero none = absurd (cc none)
left_none (v ∷ vs) (n ∷ ns) (suc t) none = left_none vs ns t none

-- another place in a client's script
left_put : (vs : List (Vec Call)) (ns : List ℕ) (t n : ℕ) (v : Vec Call) → slice_get vs t ≡ Some v → left_of vs (slice_set ns t n) ≡ slice_set (left_of vs ns) t (drop n v.items)
left_put [] ns t n v at = refl
left_put (w ∷ vs) [] t n v at = refl
left_put (w ∷ vs) (m ∷ ns) zero n v at = ap (λ (x : Vec Call). drop n x.items ∷ left_of vs ns) (same_Some w v at)
left_put (w ∷ vs) (m ∷ ns) (suc t) n v at = ap (λ (xs : List (List Call)). drop m w.items ∷ xs) (left_put vs ns t n v at)

first_left : (cs : List Call) (n : ℕ) → first_call (Some (drop n cs)) ≡ slice_get cs n
first_left [] zero = refl
first_left [] (suc n) = refl
first_left (c ∷ cs) zero = refl
first_left (c ∷ cs) (suc n) = first_left cs n

rest_left : (cs : List Call) (n : ℕ) → rest_of (drop n cs) ≡ drop (suc n) cs
rest_left [] zero = refl
rest_left [] (suc n) = refl
rest_left (c ∷ cs) zero = refl
rest_left (c ∷ cs) (suc n) = rest_left cs n

-- the calls left once a client's next call is taken
used_left : (s : State) (vs : List (Vec Call)) (ns : List ℕ) (client n : ℕ) (v : Vec Call) → s.scripts ≡ left_of vs ns → slice_get vs client ≡ Some v → slice_get ns client ≡ Some n
    → used s client ≡ left_of vs (slice_set ns client (n + 1))
used_left s vs ns client n v is at has =
    ap (λ (xs : List (List Call)). elim (slice_get xs client) [ None ↦ xs | Some script ↦ slice_set xs client (rest_of script) ]) is
    ∙ (ap (λ (x : Option (List Call)). elim x [ None ↦ left_of vs ns | Some script ↦ slice_set (left_of vs ns) client (rest_of script) ]) (left_at vs ns client n v at has)
    ∙ (ap (λ (cs : List Call). slice_set (left_of vs ns) client cs) (rest_left v.items n)
    ∙ (sym (left_put vs ns client (suc n) v at) ∙ ap (λ (m : ℕ). left_of vs (slice_set ns client m)) (sym (add-one n)))))

next_left : (vs : List (Vec Call)) (ns : List ℕ) (client n : ℕ) (v : Vec Call) → slice_get vs client ≡ Some v → slice_get ns client ≡ Some n
    → first_call (slice_get (left_of vs ns) client) ≡ slice_get v.items n
next_left vs ns client n v at has = ap (λ (x : Option (List Call)). first_call x) (left_at vs ns client n v at has) ∙ first_left v.items n

-- whether there is room for one more call, and why not
pub record IsRoom {H : Type 0} (s : Shown H) (r : Result (Unit {0}) Refusal) : Type 0 where
  pub spent : r ≡ Err Spent ↔ (s.limit ≤ length s.state.entries)
  pub busy : r ≡ Err Busy ↔ ((length s.state.entries < s.limit) × (s.cap ≤ waiting s.state))
  pub ok : r ≡ Ok tt ↔ ((length s.state.entries < s.limit) × (waiting s.state < s.cap))

pub room_spent : {H : Type 0} (s : Shown H) → s.limit ≤ length s.state.entries → IsRoom s (Err Spent)
room_spent s full = record {
  spent = (λ is. full, λ h. refl);
  busy = (λ is. absurd (cc is), λ h. absurd (let left = h.0 in omega (arith, full, left)));
  ok = (λ is. absurd (cc is), λ h. absurd (let left = h.0 in omega (arith, full, left)));
}

pub room_busy : {H : Type 0} (s : Shown H) → length s.state.entries < s.limit → s.cap ≤ waiting s.state → IsRoom s (Err Busy)
room_busy s left many = record {
  spent = (λ is. absurd (cc is), λ h. absurd (omega (arith, left, h)));
  busy = (λ is. (left, many), λ h. refl);
  ok = (λ is. absurd (cc is), λ h. absurd (let few = h.1 in omega (arith, many, few)));
}

pub room_ok : {H : Type 0} (s : Shown H) → length s.state.entries < s.limit → waiting s.state < s.cap → IsRoom s (Ok tt)
room_ok s left few = record {
  spent = (λ is. absurd (cc is), λ h. absurd (omega (arith, left, h)));
  busy = (λ is. absurd (cc is), λ h. absurd (let many = h.1 in omega (arith, many, few)));
  ok = (λ is. (left, few), λ h. refl);
}

-- the room in the state that a machine's fields show
pub room_inside : {H : Type 0} (a : Inside H) (s : Shown H) (r q : Result (Unit {0}) Refusal) → shown a ≡ s → r ≡ q → IsRoom s r → IsRoom (shown a) q
room_inside a s r q view is room = subst (λ x. IsRoom x q) (sym view) (subst (IsRoom s) is room)

-- refused where there is no room
abbrev if_room : Result (Unit {0}) Refusal → Outcome → Outcome
if_room (Ok x) go = go
if_room (Err why) go = Err why

room_is : {H : Type 0} (s : Shown H) (r : Result (Unit {0}) Refusal) (go : Outcome) → IsRoom s r
    → refuse_if (nat_le s.limit (length s.state.entries)) Spent (refuse_if (nat_le s.cap (waiting s.state)) Busy go) ≡ if_room r go
room_is s r go room = by_tests (nat_le s.limit (length s.state.entries)) (nat_le s.cap (waiting s.state)) refl refl
  where
    by_tests : (full many : Bool) → nat_le s.limit (length s.state.entries) ≡ full → nat_le s.cap (waiting s.state) ≡ many
        → refuse_if full Spent (refuse_if many Busy go) ≡ if_room r go
    by_tests true many spent busy = ap (λ (x : Result (Unit {0}) Refusal). if_room x go) (sym (room.spent.1 (grind (arith, spent))))
    by_tests false true spent busy = ap (λ (x : Result (Unit {0}) Refusal). if_room x go) (sym (room.busy.1 (le_no _ _ spent, grind (arith, busy))))
    by_tests false false spent busy = ap (λ (x : Result (Unit {0}) Refusal). if_room x go) (sym (room.ok.1 (le_no _ _ spent, le_no _ _ busy)))

-- where no turn is open, the machine goes by the next call, then by the room that is left, and then by the value that is kept
by_call : (o : Opening) (s : State) (client : ℕ) (x : Option Call) → is_some s.turn ≡ false → next_call s client ≡ x
    → step o s (event.Enter client) ≡ or_refuse x NoCall (λ (call : Call). enter o s client (ready o.base s client call) (used s client) (keeping s client None))
by_call o s client x closed next =
    ap (λ (b : Bool). refuse_if b TurnOpen (or_refuse (next_call s client) NoCall (λ (call : Call). enter o s client (ready o.base s client call) (used s client) (keeping s client None)))) closed
    ∙ ap (λ (y : Option Call). or_refuse y NoCall (λ (call : Call). enter o s client (ready o.base s client call) (used s client) (keeping s client None))) next

-- a turn opens for a call
abbrev opens : State → ℕ → List (List Call) → List (Option ℕ) → Call → Outcome
opens s client scripts kept call = Ok (Opened, record s { turn = Some (record { client = client; call = call; requested = 0; granted = true }); scripts = scripts; kept = kept })

by_room : {H : Type 0} (places : H → ℕ → ℕ) (s : Shown H) (client : ℕ) (entering : Option Call) (scripts : List (List Call)) (kept : List (Option ℕ)) (r : Result (Unit {0}) Refusal) → IsRoom s r
    → enter (opening_of places s) s.state client entering scripts kept ≡ if_room r (or_refuse entering OutOfStep (opens s.state client scripts kept))
by_room places s client entering scripts kept r room = room_is s r (or_refuse entering OutOfStep (opens s.state client scripts kept)) room

-- a call with a source enters with the value that is kept for it, if there is one
pub enters_found : (base : Base) (s : State) (client r : ℕ) (call : Call) (value : Option ℕ) → source (catalog_of base) call ≡ Some r → slice_get s.kept client ≡ Some value
    → ready base s client call ≡ option_map (with_found (catalog_of base) call) value
enters_found base s client r call value some at =
    ap (λ (x : Option ℕ). elim x [ None ↦ Some call | Some r ↦ option_map (with_found (catalog_of base) call) (kept_for s client) ]) some
    ∙ ap (λ (x : Option (Option ℕ)). option_map (with_found (catalog_of base) call) (elim x [ None ↦ None | Some v ↦ v ])) at

-- ---- the machine

-- a count below its limit, by a test of whether it has reached it
pub unspent : (n limit : ℕ) (b : Bool) → n ≤ limit → b ≡ false → (n ≡ limit → IsTrue b) → n < limit
unspent n limit true within left full = absurd (cc left)
unspent n limit false within left full =
    let apart : n ≡ limit → ⊥ = λ same. cc (full same) in
    omega (arith, within, apart)

pub is_spent : (n limit : ℕ) (b : Bool) → b ≡ true → (IsTrue b → n ≡ limit) → n ≡ limit
is_spent n limit true spent full = full refl
is_spent n limit false spent full = absurd (cc spent)

-- a count of the queue is that of the state that the machine shows
pub count_told : {H : Type 0} (p : Status → Bool) (a : Inside H) (s : Shown H) (n : ℕ) → length a.execution.items ≡ length a.queue.entries → shown a ≡ s
    → n ≡ count_by p (statuses a.queue) → n ≡ count_by (λ (e : Entered). p e.status) s.state.entries
count_told {H} p a s n works view is =
    is ∙ (sym (counted_shown p a.queue.entries a.execution.items works) ∙ ap (λ (x : Shown H). count_by (λ (e : Entered). p e.status) x.state.entries) view)

-- what a machine shows of the room in its queue
pub full_shown : {H : Type 0} {places : H → ℕ → ℕ} (a : Inside H) (s : Shown H) → IsMachine places a → shown a ≡ s → length a.queue.entries ≡ a.queue.limit → s.limit ≤ length s.state.entries
full_shown {H} a s core view full =
    subst (λ (x : Shown H). x.limit ≤ length x.state.entries) view (omega (arith, length_shown a.queue.entries a.execution.items core.works, full))

pub left_shown : {H : Type 0} {places : H → ℕ → ℕ} (a : Inside H) (s : Shown H) → IsMachine places a → shown a ≡ s → length a.queue.entries < a.queue.limit → length s.state.entries < s.limit
left_shown {H} a s core view left =
    subst (λ (x : Shown H). length x.state.entries < x.limit) view (omega (arith, length_shown a.queue.entries a.execution.items core.works, left))

pub many_shown : {H : Type 0} {places : H → ℕ → ℕ} (a : Inside H) (s : Shown H) → IsMachine places a → shown a ≡ s → count_by is_waiting (statuses a.queue) ≡ a.queue.cap → s.cap ≤ waiting s.state
many_shown {H} a s core view many =
    subst (λ (x : Shown H). x.cap ≤ waiting x.state) view (omega (arith, waiting_shown a.queue.entries a.execution.items core.works, many))

pub few_shown : {H : Type 0} {places : H → ℕ → ℕ} (a : Inside H) (s : Shown H) → IsMachine places a → shown a ≡ s → count_by is_waiting (statuses a.queue) < a.queue.cap → waiting s.state < s.cap
few_shown {H} a s core view few =
    subst (λ (x : Shown H). waiting x.state < x.cap) view (omega (arith, waiting_shown a.queue.entries a.execution.items core.works, few))

-- the next call of a client's script, by the script and the place in it
pub next_at : {H : Type 0} (a : Inside H) (client n : ℕ) (v : Vec Call) → slice_get a.scripts.items client ≡ Some v → slice_get a.next.items client ≡ Some n
    → next_call (shown a).state client ≡ slice_get v.items n
next_at a client n v at place = next_left a.scripts.items a.next.items client n v at place

-- there is none where there is no such client
pub next_none : {H : Type 0} (a : Inside H) (client : ℕ) → slice_get a.scripts.items client ≡ None → next_call (shown a).state client ≡ None
next_none a client none = ap (λ (x : Option (List Call)). first_call x) (left_none a.scripts.items a.next.items client none)

-- where the next call of a client's script stands
pub record StandsNext {H : Type 0} (a : Inside H) (client : ℕ) (call : Call) : Type 0 where
  pub script : Vec Call
  pub place : ℕ
  pub at : slice_get a.scripts.items client ≡ Some script
  pub has : slice_get a.next.items client ≡ Some place
  pub next : slice_get script.items place ≡ Some call

pub stands_next : {H : Type 0} {places : H → ℕ → ℕ} (a : Inside H) (client : ℕ) (call : Call) → IsMachine places a → next_call (shown a).state client ≡ Some call → StandsNext a client call
stands_next a client call core next = by_script (slice_get a.scripts.items client) refl
  where
    by_script : (x : Option (Vec Call)) → slice_get a.scripts.items client ≡ x → StandsNext a client call
    by_script None none = absurd (cc (sym (next_none a client none) ∙ next))
    by_script (Some v) at =
        let within = slice_get_within a.scripts.items client v at in
        let same = core.nexts in
        let n = entry_at a.next.items client (omega (arith, within, same)) in
        record { script = v; place = n.0; at = at; has = n.1; next = sym (next_at a client n.0 v at n.1) ∙ next }

-- the scripts that are shown are as many
length_left : (vs : List (Vec Call)) (ns : List ℕ) → length ns ≡ length vs → length (left_of vs ns) ≡ length vs
length_left [] ns same = refl
length_left (v ∷ vs) [] same = absurd (omega (arith, same))
length_left (v ∷ vs) (n ∷ ns) same = omega (arith, length_left vs ns (omega (arith, same)))

-- a value or none is kept for each client
pub client_kept : {H : Type 0} {places : H → ℕ → ℕ} (a : Inside H) (s : Shown H) (client : ℕ) → IsMachine places a → shown a ≡ s → client < length s.state.scripts → client < length a.kept.items
client_kept {H} a s client core view within =
    let there : client < length (shown a).state.scripts = subst (λ (x : Shown H). client < length x.state.scripts) (sym view) within in
    omega (arith, there, length_left a.scripts.items a.next.items core.nexts, core.kepts)

-- a client that has a next call has a script
pub client_there : {H : Type 0} {places : H → ℕ → ℕ} (a : Inside H) (client : ℕ) (call : Call) → IsMachine places a → StandsNext a client call → client < length (shown a).state.scripts
client_there a client call core s =
    let within = slice_get_within a.scripts.items client s.script s.at in
    omega (arith, within, length_left a.scripts.items a.next.items core.nexts)

-- the place of its next call is less than there is room for
pub place_fits : {H : Type 0} (a : Inside H) (client n : ℕ) (call : Call) → StandsNext a client call → slice_get a.next.items client ≡ Some n → n + 1 < 2 ^ 64
place_fits a client n call s place =
    let same : s.place ≡ n = same_Some s.place n (sym s.has ∙ place) in
    let within = slice_get_within s.script.items s.place call s.next in
    omega (arith, same, within, s.script.ok.0)

-- the call at a place of a script is one that the library makes
pub some_fits : {H : Type 0} {places : H → ℕ → ℕ} (a : Inside H) (s : Shown H) (client n : ℕ) (v : Vec Call) (x : Option Call) → IsMachine places a → shown a ≡ s → slice_get a.scripts.items client ≡ Some v → slice_get v.items n ≡ x
    → IfSome x (Fits (library_of s))
some_fits a s client n v None core view at is = tt
some_fits a s client n v (Some call) core view at is =
    subst (λ (c : Catalog). Fits c call) (sym (library_same a s (library_of s) core view refl))
    (all_at (Fits a.library.value) v.items n call (all_at (λ (w : Vec Call). All (Fits a.library.value) w.items) a.scripts.items client v core.scripts_fit at) is)

-- if the library that is passed is the one that a machine shows, it is a catalog
pub catalog_handed : {H : Type 0} {places : H → ℕ → ℕ} (a : Inside H) (s : Shown H) (library : Catalog) → IsMachine places a → shown a ≡ s → library ≡ library_of s → IsCatalog library
catalog_handed a s library core view same = subst IsCatalog (sym (library_same a s library core view same)) core.catalog

-- the next call of a client's script that the fields show is that of the state
pub next_told : {H : Type 0} (a : Inside H) (s : Shown H) (client : ℕ) (x : Option Call) → shown a ≡ s → next_call (shown a).state client ≡ x → x ≡ next_call s.state client
next_told {H} a s client x view is = sym is ∙ ap (λ (y : Shown H). next_call y.state client) view

-- what follows from a test of an option
pub none_there : (x : Option ℕ) → is_some x ≡ false → x ≡ None
none_there None none = refl
none_there (Some r) none = absurd (cc none)

one_there : (x : Option ℕ) → is_some x ≡ true → (r : ℕ) × (x ≡ Some r)
one_there None some = absurd (cc some)
one_there (Some r) some = (r, refl)

-- the call that enters, by the library that is handed in and the value that is kept
pub found_told : {H : Type 0} (a : Inside H) (s : Shown H) (library : Catalog) (client : ℕ) (call : Call) (value : Option ℕ) → shown a ≡ s → library ≡ library_of s → is_some (source library call) ≡ true
    → slice_get a.kept.items client ≡ Some value → option_map (with_found library call) value ≡ ready s.base s.state client call
found_told {H} a s library client call value view same some at =
    let there = one_there (source library call) some in
    ap (λ (c : Catalog). option_map (with_found c call) value) same
    ∙ sym (enters_found s.base s.state client there.0 call value (ap (λ (c : Catalog). source c call) (sym same) ∙ there.1) (ap (λ (x : Shown H). slice_get x.state.kept client) (sym view) ∙ at))

-- the next call of a client's script in the state is the one that the fields show
pub next_seen : {H : Type 0} (a : Inside H) (s : Shown H) (client : ℕ) (x : Option Call) → shown a ≡ s → x ≡ next_call s.state client → next_call (shown a).state client ≡ x
next_seen {H} a s client x view is = ap (λ (y : Shown H). next_call y.state client) view ∙ sym is

-- and so is the call that enters
pub ready_seen : {H : Type 0} (a : Inside H) (s : Shown H) (client : ℕ) (call : Call) (x : Option Call) → shown a ≡ s → x ≡ ready s.base s.state client call → ready (shown a).base (shown a).state client call ≡ x
ready_seen {H} a s client call x view is = ap (λ (y : Shown H). ready y.base y.state client call) view ∙ sym is

-- no turn is open, and this is the next call of a client's script
pub record HasNext {H : Type 0} (a : Inside H) (client : ℕ) (call : Call) : Type 0 where
  pub closed : is_some (turn_of a.turn) ≡ false
  pub next : next_call (shown a).state client ≡ Some call

-- the fields of a machine once a turn is open
abbrev pub opened_turn : {H : Type 0} → Inside H → ℕ → Call → ℕ → Inside H
opened_turn a client call n =
    record a { turn = Some (record { client = client; call = call; requested = 0; granted = true }); next = with_item a.next client (n + 1); kept = with_item a.kept client None }

next_is : {H : Type 0} (places : H → ℕ → ℕ) (a : Inside H) (client : ℕ) (call : Call) (r : Result (Unit {0}) Refusal) → HasNext a client call → IsRoom (shown a) r
    → step (opening_of places (shown a)) (shown a).state (event.Enter client)
    ≡ if_room r (or_refuse (ready (shown a).base (shown a).state client call) OutOfStep (opens (shown a).state client (used (shown a).state client) (keeping (shown a).state client None)))
next_is places a client call r has room =
    by_call (opening_of places (shown a)) (shown a).state client (Some call) has.closed has.next
    ∙ by_room places (shown a) client (ready (shown a).base (shown a).state client call) (used (shown a).state client) (keeping (shown a).state client None) r room

-- there is room for a client's next call, which enters as this call
pub record CanEnter {H : Type 0} (places : H → ℕ → ℕ) (a : Inside H) (client n : ℕ) (next call : Call) : Type 0 where
  pub core : IsMachine places a
  pub has : HasNext a client next
  pub place : slice_get a.next.items client ≡ Some n
  pub room : IsRoom (shown a) (Ok tt)
  pub enters : ready (shown a).base (shown a).state client next ≡ Some call

pub taken_enter : {H : Type 0} {places : H → ℕ → ℕ} (a : Inside H) (client n : ℕ) (next call : Call) → CanEnter places a client n next call → Takes places a (opened_turn a client call n) (event.Enter client) Opened
taken_enter {H} {places} a client n next call can =
    let s : State = (shown a).state in
    let stands = stands_next a client next can.core can.has.next in
    record {
      fixed = refl;
      is =
          next_is places a client next (Ok tt) can.has can.room
          ∙ (ap (λ (x : Option Call). or_refuse x OutOfStep (opens s client (used s client) (keeping s client None))) can.enters
          ∙ ap (λ (scripts : List (List Call)). opens s client scripts (keeping s client None) call)
          (used_left s a.scripts.items a.next.items client n stands.script refl stands.at can.place));
    }

pub core_enter : {H : Type 0} {places : H → ℕ → ℕ} (a : Inside H) (client n : ℕ) (next call : Call) → CanEnter places a client n next call → IsReady a.library.value call
    → IsMachine places (opened_turn a client call n)
core_enter {H} {places} a client n next call can is_ready =
    let b : Inside H = opened_turn a client call n in
    let takes : Takes places a b (event.Enter client) Opened = taken_enter a client n next call can in
    let core = can.core in
    assumption (
      taken_reached a b (event.Enter client) Opened takes core.reached,
      taken_words a b (event.Enter client) Opened takes core.reached refl refl refl core.words,
      length-set a.next.items client (n + 1) ∙ core.nexts,
      length-set a.kept.items client None ∙ core.kepts,
      is_ready,
    )

-- the fields of a machine once a turn is open for a call that is handed in
abbrev pub handed_turn : {H : Type 0} → Inside H → ℕ → Call → Inside H
handed_turn a client call = record a { turn = Some (record { client = client; call = call; requested = 0; granted = true }) }

hand_is : {H : Type 0} (places : H → ℕ → ℕ) (a : Inside H) (client : ℕ) (call : Call) (r : Result (Unit {0}) Refusal) → is_some (turn_of a.turn) ≡ false
    → IsRoom (shown a) r
    → move (opening_of places (shown a)) (shown a).state (hand client call) ≡ if_room r (Ok (Opened, (shown (handed_turn a client call)).state))
hand_is places a client call r closed room =
    ap (λ (b : Bool). refuse_if b TurnOpen (enter (opening_of places (shown a)) (shown a).state client (Some call) (shown a).state.scripts (shown a).state.kept)) closed
    ∙ by_room places (shown a) client (Some call) (shown a).state.scripts (shown a).state.kept r room

pub core_handed : {H : Type 0} {places : H → ℕ → ℕ} (a : Inside H) (client : ℕ) (call : Call) → IsMachine places a → is_some (turn_of a.turn) ≡ false → IsReady a.library.value call
    → IsRoom (shown a) (Ok tt) → IsMachine places (handed_turn a client call)
core_handed {H} {places} a client call core closed is_ready room =
    let o : Opening = opening_of places (shown a) in
    let next : State = (shown (handed_turn a client call)).state in
    let is : move o (shown a).state (hand client call) ≡ Ok (Opened, next) = hand_is places a client call (Ok tt) closed room in
    assumption (
      moved (shown a).state (hand client call) Opened next core.reached (proper_ready a.library.value a.opening.value.items call core.catalog core.records is_ready) is,
      words_stay o (shown a).state next (hand client call) Opened a.words.items core.reached is refl refl refl core.words,
      is_ready,
    )
