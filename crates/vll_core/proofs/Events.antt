-- Each event keeps what reached states keep.
use Rattle.std.proofs.Common.{◌≡◌, ℕ, Bool, true, false, ◌==◌, ◌&&◌, not, refl, sym, arith, ◌<◌, ◌≤◌, nat_lt, nat_le, ◌≢◌, ◌⊎◌, inl, inr, ◌+◌, List, [], ◌∷◌, length, drop, ap, ◌∙◌, subst, slice_get, slice_set, Some, cond, ◌++◌, take, All, Option, None, option_map, if◌then◌else◌, length-append, take_all}
use Rattle.vll_core.proofs.Common.{take-length, slice_get_within, same_Some, position_or_len, list_any, flat_map, with_entry, has_stored, first_call, next_call, rest_of, used, kept_for, ready, front, Base, catalog_of, Entered, State, Turn, writes, records_before, open_of, is_clear, requested_of, unstored, has_aborted, Opening, open_claims, Claim, All-set, All-tail, list_any-append, exact_unsigned_eq, conflict, conflicts, or_parts, IsProper, EntersProper, AreProper, Call, source, with_found, Status, is_waiting, is_gone, is_running, Running, Gone, Waiting}
use Rattle.vll_core.proofs.Tests.{both_true, and_rest, not_no, not_yes, lt_no, le_no, eq_no, eq_same}
use Rattle.vll_core.proofs.Places.{take_next, drop_next, drop_none, all_at, at_push, below_position}
use Rattle.vll_core.proofs.OwnClaims.{conflict_none, conflict_both}
use Rattle.vll_core.proofs.SerialRun.{records_pushed}
use Rattle.vll_core.proofs.Clear.{clear_admit, none_open}
use Rattle.vll_core.proofs.Kept.{has_stored_on, IsEntryKept, IsTurnKept, IsKept, kept_entry}

pub running_not_waiting : (x : Status) → is_running x ≡ true → is_waiting x ≡ false
running_not_waiting Waiting h = absurd (cc h)
running_not_waiting other h = refl

running_not_gone : (x : Status) → is_running x ≡ true → is_gone x ≡ true → ⊥
running_not_gone Running h k = cc k
running_not_gone other h k = cc h

-- a load
pub kept_load : (o : Opening) (s : State) (t : ℕ) (e : Entered) (c : Claim) → IsKept o s → slice_get s.entries t ≡ Some e → is_running e.status ≡ true
    → slice_get e.call.claims e.loads ≡ Some c → IsKept o (with_entry s t (record e { loads = e.loads + 1 }))
kept_load o s t e c kept at runs next =
    let own = kept.entries t e at in
    let left : e.loads < length e.call.claims = slice_get_within e.call.claims e.loads c next in
    let now : List ℕ = records_before o.base s t in
    let loads : e.loads + 1 ≤ length e.call.claims = omega (arith, left) in
    let stored : 0 < e.stores → e.loads + 1 ≡ length e.call.claims = λ some. absurd (let z = own.stored some in omega (arith, left, z)) in
    let released : 0 < e.releases → has_stored_on o.base now (record e { loads = e.loads + 1 }) ≡ true =
    λ some. absurd (let z : e.loads ≡ length e.call.claims = exact_unsigned_eq e.loads (length e.call.claims) (both_true _ _ (own.released some)).0 in omega (arith, left, z)) in
    kept_entry o s t e (record e { loads = e.loads + 1 }) kept at refl
    (record { proper = own.proper; loads = loads; stores = own.stores; waiting = own.waiting; stored = stored; released = released; gone = own.gone })
    (λ p h. h) (λ busy. kept.clear t e at busy)

-- a store
pub kept_store : (o : Opening) (s : State) (t : ℕ) (e : Entered) → IsKept o s → slice_get s.entries t ≡ Some e → is_running e.status ≡ true
    → nat_lt e.loads (length e.call.claims) ≡ false → has_stored o.base s t e ≡ false → IsKept o (with_entry s t (record e { stores = e.stores + 1 }))
kept_store o s t e kept at runs loaded unstored =
    let own = kept.entries t e at in
    let now : List ℕ = records_before o.base s t in
    let all : e.loads ≡ length e.call.claims = (let a = lt_no e.loads (length e.call.claims) loaded in let b = own.loads in omega (arith, a, b)) in
    let some : e.stores ≢ length (writes e.call) =
    eq_no e.stores (length (writes e.call)) (or_parts (has_aborted o.base s t e) (e.stores == length (writes e.call)) (and_rest _ _ unstored (eq_same e.loads (length e.call.claims) all))).1 in
    let stores : e.stores + 1 ≤ length (writes e.call) = (let b = own.stores in omega (arith, some, b)) in
    let waiting : is_waiting e.status ≡ true → e.stores + 1 ≡ 0 = λ w. absurd (cc (sym w ∙ running_not_waiting e.status runs)) in
    let stored : 0 < e.stores + 1 → e.loads ≡ length e.call.claims = λ z. all in
    let released : 0 < e.releases → has_stored_on o.base now (record e { stores = e.stores + 1 }) ≡ true = λ z. absurd (cc (sym (own.released z) ∙ unstored)) in
    kept_entry o s t e (record e { stores = e.stores + 1 }) kept at refl
    (assumption (stores, waiting, stored, released, own))
    (λ p h. h) (λ busy. kept.clear t e at busy)

-- a release
pub kept_release : (o : Opening) (s : State) (t : ℕ) (e : Entered) (c : Claim) → IsKept o s → slice_get s.entries t ≡ Some e → is_running e.status ≡ true
    → has_stored o.base s t e ≡ true → slice_get e.call.claims e.releases ≡ Some c → IsKept o (with_entry s t (record e { releases = e.releases + 1 }))
kept_release o s t e c kept at runs stored next =
    let own = kept.entries t e at in
    let released : 0 < e.releases + 1 → has_stored o.base s t e ≡ true = λ z. stored in
    let gone : is_gone e.status ≡ true → length e.call.claims ≤ e.releases + 1 = λ g. absurd (running_not_gone e.status runs g) in
    kept_entry o s t e (record e { releases = e.releases + 1 }) kept at refl
    (assumption (released, gone, own))
    (λ p h. (or_parts (p c) (list_any p (drop (e.releases + 1) e.call.claims)) (ap (list_any p) (sym (drop_next e.call.claims e.releases c next)) ∙ h)).1) (λ busy. kept.clear t e at busy)

-- a call that has released all is gone
pub kept_finish : (o : Opening) (s : State) (t : ℕ) (e : Entered) → IsKept o s → slice_get s.entries t ≡ Some e → is_running e.status ≡ true
    → nat_lt e.releases (length e.call.claims) ≡ false → IsKept o (with_entry s t (record e { status = Gone }))
kept_finish o s t e kept at runs released =
    let own = kept.entries t e at in
    let waiting : is_waiting Gone ≡ true → e.stores ≡ 0 = λ w. absurd (cc w) in
    let gone : is_gone Gone ≡ true → length e.call.claims ≤ e.releases = λ g. lt_no e.releases (length e.call.claims) released in
    kept_entry o s t e (record e { status = Gone }) kept at refl
    (assumption (waiting, gone, own))
    (λ p h. h) (λ busy. kept.clear t e at (running_not_waiting e.status runs))

-- a clear ticket begins to run
pub kept_run : (o : Opening) (s : State) (t : ℕ) (e : Entered) → IsKept o s → slice_get s.entries t ≡ Some e
    → is_clear s t e.call.claims ≡ true → IsKept o (with_entry s t (record e { status = Running }))
kept_run o s t e kept at clear =
    let own = kept.entries t e at in
    let waiting : is_waiting Running ≡ true → e.stores ≡ 0 = λ w. absurd (cc w) in
    let gone : is_gone Running ≡ true → length e.call.claims ≤ e.releases = λ g. absurd (cc g) in
    kept_entry o s t e (record e { status = Running }) kept at refl
    (assumption (waiting, gone, own))
    (λ p h. h) (λ busy. clear)

-- a ticket below which each entry is gone is clear
pub clear_above_gone : (o : Opening) (s : State) (t : ℕ) (cs : List Claim) → IsKept o s → ((v : ℕ) (e : Entered) → v < t → slice_get s.entries v ≡ Some e → is_gone e.status ≡ true) → is_clear s t cs ≡ true
clear_above_gone o s t cs kept gone =
    ap (λ xs. not (conflict xs cs)) (none_open s.entries t (λ v e low at. drop_none e.releases e.call.claims ((kept.entries v e at).gone (gone v e low at))))

-- the front ticket waits, and each lower one is gone
pub record IsFront (s : State) (t : ℕ) : Type 0 where
  pub entry : Entered
  pub at : slice_get s.entries t ≡ Some entry
  pub waits : is_waiting entry.status ≡ true
  pub gone : (v : ℕ) (e : Entered) → v < t → slice_get s.entries v ≡ Some e → is_gone e.status ≡ true

pub front_is : (s : State) (t : ℕ) → front s ≡ Some t → IsFront s t
front_is s t h = by_position (nat_lt (position_or_len p s.entries) (length s.entries)) h
  where
    p : Entered → Bool
    p e = not (is_gone e.status)

    by_status : (u : ℕ) (e : Entered) (b : Bool) → is_waiting e.status ≡ b → u ≡ position_or_len p s.entries → slice_get s.entries u ≡ Some e → (if b then Some u else None) ≡ Some t → IsFront s t
    by_status u e true waits is at k =
        let same : u ≡ t = same_Some u t k in
        record {
          entry = e;
          at = ap (slice_get s.entries) (sym same) ∙ at;
          waits = waits;
          gone = λ v d low here. not_no (is_gone d.status) (below_position p s.entries v d (omega (arith, low, same, is)) here);
        }
    by_status u e false waits is at k = absurd (cc k)

    by_entry : (u : ℕ) (x : Option Entered) → u ≡ position_or_len p s.entries → slice_get s.entries u ≡ x
        → elim x as (λ _. Option ℕ) [ None ↦ None | Some e ↦ if is_waiting e.status then Some u else None ] ≡ Some t → IsFront s t
    by_entry u None is at k = absurd (cc k)
    by_entry u (Some e) is at k = by_status u e (is_waiting e.status) refl is at k

    by_position : (b : Bool)
        → elim (cond b (Some (position_or_len p s.entries)) None) as (λ _. Option ℕ) [ None ↦ None | Some u ↦ elim (slice_get s.entries u) as (λ _. Option ℕ) [ None ↦ None | Some e ↦ if is_waiting e.status then Some u else None ] ] ≡ Some t
        → IsFront s t
    by_position true k = by_entry (position_or_len p s.entries) (slice_get s.entries (position_or_len p s.entries)) refl refl k
    by_position false k = absurd (cc k)

-- a value is found
pub kept_find : (o : Opening) (s : State) (values : List (Option ℕ)) → IsKept o s → IsKept o (record s { kept = values })
kept_find o s values kept = record { entries = kept.entries; clear = kept.clear; turn = kept.turn; scripts = kept.scripts; room = kept.room }

-- a turn opens
pub kept_enter : (o : Opening) (s : State) (client : ℕ) (call : Call) (scripts : List (List Call)) (values : List (Option ℕ)) → IsKept o s → IsProper o.base call → AreProper o.base scripts
    → nat_le o.limit (length s.entries) ≡ false → IsKept o (record s { turn = Some (record { client = client; call = call; requested = 0; granted = true }); scripts = scripts; kept = values })
kept_enter o s client call scripts values kept proper all room = record {
  entries = kept.entries;
  clear = kept.clear;
  turn = λ turn is. subst (IsTurnKept o s.entries) (same_Some _ turn is) opened_turn;
  scripts = all;
  room = kept.room;
}
  where
    opened_turn : IsTurnKept o s.entries (record { client = client; call = call; requested = 0; granted = true })
    opened_turn = record { proper = proper; granted = λ g. conflict_none (flat_map open_of s.entries); room = le_no o.limit (length s.entries) room }

-- the next call of a script is proper as it enters, and so is the rest
pub proper_next : (o : Base) (s : State) (client : ℕ) (call : Call) → AreProper o s.scripts → next_call s client ≡ Some call → EntersProper o call
proper_next o s client call all h = step (slice_get s.scripts client) refl h
  where
    step : (x : Option (List Call)) → slice_get s.scripts client ≡ x → first_call x ≡ Some call → EntersProper o call
    step (Some (c ∷ more)) at k = all_at (EntersProper o) (c ∷ more) 0 call (all_at (All (EntersProper o)) s.scripts client (c ∷ more) all at) k
    step other at k = absurd (cc k)

-- such a call is proper with the value that is kept for it
pub proper_entering : (o : Base) (s : State) (client : ℕ) (next call : Call) → EntersProper o next → ready o s client next ≡ Some call → IsProper o call
proper_entering o s client next call proper h = by_source (source (catalog_of o) next) proper h
  where
    by_kept : (x : Option ℕ) → ((v : ℕ) → IsProper o (with_found (catalog_of o) next v)) → option_map (with_found (catalog_of o) next) x ≡ Some call → IsProper o call
    by_kept None all k = absurd (cc k)
    by_kept (Some v) all k = subst (IsProper o) (same_Some (with_found (catalog_of o) next v) call k) (all v)

    by_source : (x : Option ℕ) → elim x as (λ _. Type 0) [ None ↦ IsProper o next | Some r ↦ ((v : ℕ) → IsProper o (with_found (catalog_of o) next v)) ]
        → elim x as (λ _. Option Call) [ None ↦ Some next | Some r ↦ option_map (with_found (catalog_of o) next) (kept_for s client) ] ≡ Some call → IsProper o call
    by_source None own k = subst (IsProper o) (same_Some next call k) own
    by_source (Some r) all k = by_kept (kept_for s client) all k

pub proper_used : (o : Base) (s : State) (client : ℕ) → AreProper o s.scripts → AreProper o (used s client)
proper_used o s client all = step (slice_get s.scripts client) refl
  where
    rest : (cs : List Call) → All (EntersProper o) cs → All (EntersProper o) (rest_of cs)
    rest [] h = h
    rest (c ∷ cs) h = All-tail (EntersProper o) c cs h

    step : (x : Option (List Call)) → slice_get s.scripts client ≡ x
        → AreProper o (elim x as (λ _. List (List Call)) [ None ↦ s.scripts | Some script ↦ slice_set s.scripts client (rest_of script) ])
    step None at = all
    step (Some script) at = All-set (All (EntersProper o)) s.scripts client (rest_of script) (rest script (all_at (All (EntersProper o)) s.scripts client script all at)) all

-- a request
pub kept_request : (o : Opening) (s : State) (turn : Turn) (c : Claim) → IsKept o s → s.turn ≡ Some turn → slice_get turn.call.claims turn.requested ≡ Some c
    → IsKept o (record s { turn = Some (record turn { requested = turn.requested + 1; granted = turn.granted && not (conflict (open_claims s) (c ∷ [])) }) })
kept_request o s turn c kept is next = record {
  entries = kept.entries;
  clear = kept.clear;
  turn = λ other same. subst (IsTurnKept o s.entries) (same_Some _ other same) more;
  scripts = kept.scripts;
  room = kept.room;
}
  where
    granted : (turn.granted && not (conflict (open_claims s) (c ∷ []))) ≡ true → conflict (flat_map open_of s.entries) (take (turn.requested + 1) turn.call.claims) ≡ false
    granted g =
        let others : conflict (flat_map open_of s.entries) (c ∷ []) ≡ false =
        (or_parts _ _ (sym (list_any-append (λ x. list_any (conflicts x) (c ∷ [])) (flat_map open_of s.entries) (requested_of s.turn)) ∙ not_yes _ (both_true turn.granted _ g).1)).0 in
        ap (conflict (flat_map open_of s.entries)) (take_next turn.call.claims turn.requested c next)
        ∙ conflict_both (flat_map open_of s.entries) (take turn.requested turn.call.claims) (c ∷ []) ((kept.turn turn is).granted (both_true turn.granted _ g).0) others

    more : IsTurnKept o s.entries (record turn { requested = turn.requested + 1; granted = turn.granted && not (conflict (open_claims s) (c ∷ [])) })
    more = record { proper = (kept.turn turn is).proper; granted = granted; room = (kept.turn turn is).room }

-- a call gets the next ticket
pub kept_admit : (o : Opening) (s : State) (turn : Turn) (status : Status) → IsKept o s → s.turn ≡ Some turn → nat_lt turn.requested (length turn.call.claims) ≡ false
    → is_gone status ≡ false → (is_waiting status ≡ false → turn.granted ≡ true)
    → IsKept o (record s { entries = s.entries ++ record { client = turn.client; call = turn.call; status = status; loads = 0; stores = 0; releases = 0 } ∷ []; turn = None })
kept_admit o s turn status kept is requested here free = record {
  entries = λ t e at. entry t e (at_push s.entries new t e at);
  clear = λ t e at busy. clear t e (at_push s.entries new t e at) busy;
  turn = λ other same. absurd (cc same);
  scripts = kept.scripts;
  room = let z = (kept.turn turn is).room in let l = length-append s.entries (new ∷ []) in omega (arith, z, l);
}
  where
    new : Entered
    new = record { client = turn.client; call = turn.call; status = status; loads = 0; stores = 0; releases = 0 }

    next : State
    next = record s { entries = s.entries ++ new ∷ []; turn = None }

    own : (now : List ℕ) → IsEntryKept o.base now new
    own now = record {
      proper = (kept.turn turn is).proper;
      loads = omega arith;
      stores = omega arith;
      waiting = λ w. refl;
      stored = λ z. absurd (omega (arith, z));
      released = λ z. absurd (omega (arith, z));
      gone = λ g. absurd (cc (sym g ∙ here));
    }

    entry : (t : ℕ) (e : Entered) → (slice_get s.entries t ≡ Some e) ⊎ ((t ≡ length s.entries) × (e ≡ new)) → IsEntryKept o.base (records_before o.base next t) e
    entry t e (inl at) =
        subst (λ now. IsEntryKept o.base now e) (sym (records_pushed o.base s new None t (let z = slice_get_within s.entries t e at in omega (arith, z)))) (kept.entries t e at)
    entry t e (inr p) = subst (IsEntryKept o.base (records_before o.base next t)) (sym p.1) (own (records_before o.base next t))

    clear : (t : ℕ) (e : Entered) → (slice_get s.entries t ≡ Some e) ⊎ ((t ≡ length s.entries) × (e ≡ new)) → is_waiting e.status ≡ false → is_clear next t e.call.claims ≡ true
    clear t e (inl at) busy = clear_admit s t new None e.call.claims (let z = slice_get_within s.entries t e at in omega (arith, z)) ∙ kept.clear t e at busy
    clear t e (inr p) busy =
        let granted : turn.granted ≡ true = free (ap (λ (x : Entered). is_waiting x.status) (sym p.1) ∙ busy) in
        let whole : take turn.requested turn.call.claims ≡ turn.call.claims = take_all turn.requested turn.call.claims (lt_no turn.requested (length turn.call.claims) requested) in
        let apart : conflict (flat_map open_of s.entries) turn.call.claims ≡ false = ap (conflict (flat_map open_of s.entries)) (sym whole) ∙ (kept.turn turn is).granted granted in
        let old : is_clear s (length s.entries) turn.call.claims ≡ true = ap (λ es. not (conflict (flat_map open_of es) turn.call.claims)) (take-length s.entries) ∙ ap not apart in
        ap (λ n. is_clear next n e.call.claims) p.0 ∙ (ap (λ (x : Entered). is_clear next (length s.entries) x.call.claims) p.1 ∙ (clear_admit s (length s.entries) new None turn.call.claims (omega arith) ∙ old))
