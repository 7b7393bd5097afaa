-- The journal of an engine that is closed with the sessions of a run's tokens, once these are back.
use Rattle.std.proofs.Common.{◌≡◌, ℕ, zero, suc, ◌+◌, ◌-◌, ◌<◌, ◌≤◌, ◌==◌, List, [], ◌∷◌, ◌++◌, map, length, take, drop, Option, Some, None, refl, ap, ap₂, ◌∙◌, sym, arith, slice_get, slice_index, subst, Bool, true, false, if◌then◌else◌, ◌⊎◌, inl, inr, ⊎_elim, ◌≢◌, min, zero-add}
use Rattle.std.specs.Prelude.{unwrap_or, sum_by}
use Rattle.std.specs.List.{All, filter}
use Rattle.std.specs.List.Sorted.{IsStrictlyIncreasing}
use Rattle.std.specs.Option.{option_map}
use Rattle.std.proofs.Math.Nat.{sub-zero}
use Rattle.std.proofs.Math.Seq.{take-length}
use Rattle.std.proofs.lemmas.Bool.{cond-false, ne_eqb}
use Rattle.std.proofs.lemmas.Bool.Decides.{eqb_tells}
use Rattle.std.proofs.lemmas.List.{append_cancel_left, length-map, length-append, length-take, map-append}
use Rattle.std.proofs.lemmas.List.Elements.{All-cons, All-drop, All-tail, All-take}
use Rattle.std.proofs.lemmas.List.Sorted.{length_permutation}
use Rattle.std.proofs.lemmas.List.Sums.{sum_by-cons}
use Rattle.std.proofs.lemmas.Option.{get_or_from_slice_get, same_Some, slice_get-map, slice_get_past, slice_get_within}
use Rattle.vll_proc.specs.declared.call.Call.{Call}
use Rattle.vll_proc.specs.Headline.Serial.{Made}
use Rattle.vll_check.specs.Calls.{bare, bares, Fits, IsReady}
use Rattle.vll_check.specs.Headline.Catalog.{Catalog}
use Rattle.vll_check.proofs.Fitting.{are_found}
use Rattle.vll_core.specs.declared.line.Line.{Line}
use Rattle.vll_core.proofs.MachineState.{all_from}
use Rattle.vll_core.proofs.Places.{all_at}
use Rattle.vll_counters.specs.Headline.Views.{calls_by, calls_in}
use Rattle.vll_queue.proofs.Learning.{calls_by-append}
use Rattle.vll_queue.specs.declared.closed.Closed.{Closed}
use Rattle.vll_queue.specs.Sessions.{HasItsCalls}
use Rattle.vll_queue.specs.Shown.{Named, library_of}
use Rattle.vll_workers.specs.Headline.Merge.{IsMerge}
use Rattle.vll_workers.specs.Merge.{AreForScripts, HasFound, IsAtStart, IsClosedWith}
use Rattle.vll_tokens.specs.Shown.{TokenShown}
use Rattle.vll_tokens.specs.Tokens.{AreBack, AreFit, IsFit, IsOf, IsThrough, OneIsSpent, calls_between, clients_of}

-- ---- the tokens that come back

-- numbers that rise are no smaller than their places
rises : (xs : List ℕ) → IsStrictlyIncreasing xs → (i : ℕ) → i < length xs → i ≤ slice_index xs i
rises xs up zero within = omega arith
rises xs up (suc i) within =
    let before = rises xs up i (omega arith) in
    let step = up i (omega arith) in
    let next : i + 1 ≡ suc i = omega arith in
    subst (λ n. suc i ≤ slice_index xs n) next (omega (arith, before, step))

-- and, if all are below their number, no larger: k places from the end
falls_short : (xs : List ℕ) (n : ℕ) → length xs ≡ n → IsStrictlyIncreasing xs → ((i : ℕ) → i < n → slice_index xs i < n) → (k i : ℕ) → i + k + 1 ≡ n → slice_index xs i + k < n
falls_short xs n count up below zero i last = let bound = below i (omega arith) in omega (arith, bound)
falls_short xs n count up below (suc k) i last =
    let more = falls_short xs n count up below k (i + 1) (omega arith) in
    let step = up i (omega arith) in
    omega (arith, more, step)

-- so they are their places
are_places : (xs : List ℕ) → IsStrictlyIncreasing xs → ((i : ℕ) → i < length xs → slice_index xs i < length xs) → (i : ℕ) → i < length xs → slice_index xs i ≡ i
are_places xs up below i within =
    let low = rises xs up i within in
    let rest : i + (length xs - i - 1) + 1 ≡ length xs = omega arith in
    let high = falls_short xs (length xs) refl up below (length xs - i - 1) i rest in
    omega (arith, low, high)

slice_get_none : {A : Type 0} (xs : List A) (i : ℕ) → slice_get xs i ≡ None → length xs ≤ i
slice_get_none [] i is = omega arith
slice_get_none (x ∷ xs) zero is = absurd (cc)
slice_get_none (x ∷ xs) (suc i) is = let rest = slice_get_none xs i is in omega (arith, rest)

-- as many come back as were handed in
pub count_back : (e : Named) (scripts : List (List Call)) (handed back : List TokenShown) → AreForScripts e scripts handed → AreBack handed back → length back ≡ length scripts
count_back e scripts handed back for h =
    sym (length-map back (λ (t : TokenShown). t.client)) ∙ length_permutation (clients_of handed) (clients_of back) h.same
    ∙ length-map handed (λ (t : TokenShown). t.client) ∙ for.count

-- a client's token that came back: of the client's calls, its session has seen just those of its script that entered
record IsHome (e : Named) (scripts : List (List Call)) (t : TokenShown) : Type 0 where
  table : t.session.table ≡ e.table
  whose : t.session.session.client ≡ t.client
  script : slice_get scripts t.client ≡ Some t.script
  own : bares (calls_by t.client t.session.session.seen) ≡ bares (take t.next t.script)

is_home : (e : Named) (scripts : List (List Call)) (handed : List TokenShown) (t : TokenShown) → AreForScripts e scripts handed → IsOf handed t → IsHome e scripts t
is_home e scripts handed t for of = record {
  table = of.table ∙ (all_at (IsFit e) handed of.index of.old for.fit of.at).session;
  whose = of.whose ∙ start.whose ∙ sym of.client;
  script = ap (slice_get scripts) of.client ∙ start.script ∙ ap Some (sym of.script);
  own = ap (λ n. bares (calls_by n t.session.session.seen)) (of.client ∙ sym start.whose) ∙ of.gained.own ∙ ap bares (ap₂ (λ (xs ys : List Call). xs ++ ys) none entered);
}
  where
    start : IsAtStart scripts of.old
    start = all_at (IsAtStart scripts) handed of.index of.old for.start of.at

    -- the session had seen none of the client's calls
    none : calls_by of.old.session.session.client of.old.session.session.seen ≡ []
    none = ap (λ n. calls_by n of.old.session.session.seen) start.whose ∙ start.unseen

    -- and the calls that it has gained begin the script
    entered : calls_between of.old.next t.next of.old.script ≡ take t.next t.script
    entered =
        ap (λ n. calls_between n t.next of.old.script) start.none
        ∙ ap (λ n. take n of.old.script) (sub-zero t.next)
        ∙ ap (take t.next) (sym of.script)

-- each client's token is at its place
record AreHome (e : Named) (scripts : List (List Call)) (back : List TokenShown) : Type 0 where
  count : length back ≡ length scripts
  each : (i : ℕ) (t : TokenShown) → slice_get back i ≡ Some t → IsHome e scripts t
  place : (i : ℕ) (t : TokenShown) → slice_get back i ≡ Some t → t.client ≡ i

are_home : (e : Named) (scripts : List (List Call)) (handed back : List TokenShown) → AreForScripts e scripts handed → AreBack handed back → AreHome e scripts back
are_home e scripts handed back for h = record { count = count; each = home; place = own_place }
  where
    count : length back ≡ length scripts
    count = count_back e scripts handed back for h

    home : (i : ℕ) (t : TokenShown) → slice_get back i ≡ Some t → IsHome e scripts t
    home i t at = is_home e scripts handed t for (all_at (IsOf handed) back i t h.own at)

    client_at : (i : ℕ) (t : TokenShown) → slice_get back i ≡ Some t → slice_index (clients_of back) i ≡ t.client
    client_at i t at = get_or_from_slice_get (clients_of back) i t.client 0 (slice_get-map (λ (u : TokenShown). u.client) back i ∙ ap (option_map (λ (u : TokenShown). u.client)) at)

    all : length (clients_of back) ≡ length scripts
    all = length-map back (λ (t : TokenShown). t.client) ∙ count

    below : (i : ℕ) → i < length (clients_of back) → slice_index (clients_of back) i < length (clients_of back)
    below i within = there (slice_get back i) refl
      where
        there : (o : Option TokenShown) → slice_get back i ≡ o → slice_index (clients_of back) i < length (clients_of back)
        there None none = absurd (let past = slice_get_none back i none in omega (arith, past, within, length-map back (λ (t : TokenShown). t.client)))
        there (Some t) at = let mine = slice_get_within scripts t.client t.script (home i t at).script in omega (arith, mine, client_at i t at, all)

    own_place : (i : ℕ) (t : TokenShown) → slice_get back i ≡ Some t → t.client ≡ i
    own_place i t at =
        let within : i < length (clients_of back) = omega (arith, slice_get_within back i t at, length-map back (λ (u : TokenShown). u.client)) in
        sym (client_at i t at) ∙ are_places (clients_of back) h.rising below i within

-- their sessions are the engine's
pub are_own : (e : Named) (scripts : List (List Call)) (handed back : List TokenShown) → AreForScripts e scripts handed → AreBack handed back → All (λ (t : TokenShown). t.session.table ≡ e.table) back
are_own e scripts handed back for h = all_from (λ (t : TokenShown). t.session.table ≡ e.table) back (λ i t at. ((are_home e scripts handed back for h).each i t at).table)

-- ---- the journal

-- of the calls of a client whose token came back, the journal has just those of its script that have entered
entered_by : (e : Named) (scripts : List (List Call)) (back : List TokenShown) (closed : Closed) → AreHome e scripts back → IsClosedWith e back closed
    → (i : ℕ) (t : TokenShown) → slice_get back i ≡ Some t → bares (calls_by i (calls_in closed.journal.items)) ≡ bares (take t.next t.script)
entered_by e scripts back closed homes with i t at =
    let calls = calls_in closed.journal.items in
    let home = homes.each i t at in
    let its = all_at (λ (u : TokenShown). HasItsCalls calls u.session.session) back i t with.seen at in
    ap (λ n. bares (calls_by n calls)) (sym (homes.place i t at))
    ∙ ap (λ n. bares (calls_by n calls)) (sym home.whose)
    ∙ ap bares (sym its.own)
    ∙ ap (λ n. bares (calls_by n t.session.session.seen)) home.whose
    ∙ home.own

-- if each call is of a client below a number, a client from that number on has no calls
no_calls : (clients c : ℕ) (lines : List Line) → clients ≤ c → All (λ (l : Line). l.client < clients) lines → calls_by c (calls_in lines) ≡ []
no_calls clients c [] past all = refl
no_calls clients c (l ∷ lines) past all =
    let first : l.client < clients = all 0 l (omega arith) in
    let other : l.client ≡ c → ⊥ = λ e. omega (arith, first, e, past) in
    ap (λ (ms : List Made). map (λ (m : Made). m.1) ms) (cond-false (l.client == c) _ _ (ne_eqb l.client c other))
    ∙ no_calls clients c lines past (λ i d within. all (suc i) d (omega (arith, within)))

-- if each call is ready, each of a client's calls is
ready_by : (library : Catalog) (c : ℕ) (lines : List Line) → All (λ (l : Line). IsReady library l.call) lines → All (IsReady library) (calls_by c (calls_in lines))
ready_by library c [] all = λ i d within. absurd (omega (arith, within))
ready_by library c (l ∷ lines) all = by_client (l.client == c) (all 0 l (omega arith)) (ready_by library c lines (λ i d within. all (suc i) d (omega (arith, within))))
  where
    by_client : (own : Bool) → IsReady library l.call → All (IsReady library) (calls_by c (calls_in lines))
        → All (IsReady library) (map (λ (m : Made). m.1) (if own then (l.client, l.call) ∷ filter (λ (m : Made). m.0 == c) (calls_in lines) else filter (λ (m : Made). m.0 == c) (calls_in lines)))
    by_client false first rest = rest
    by_client true first rest = All-cons (IsReady library) l.call (calls_by c (calls_in lines)) first rest

-- what holds of all of a list holds of its end
all_behind : {X : Type 0} (P : X → Type 0) (xs ys : List X) → All P (xs ++ ys) → All P ys
all_behind P [] ys all = all
all_behind P (x ∷ xs) ys all = all_behind P xs ys (All-tail P x (xs ++ ys) all)

-- what a token's session has gained is of its script, with the values found
pub gained_found : (e : Named) (handed back : List TokenShown) (closed : Closed) → AreFit e handed → IsClosedWith e back closed → (i : ℕ) (t : TokenShown) → slice_get back i ≡ Some t → (of : IsOf handed t)
    → HasFound (library_of e) of.old.session.session t.session.session (calls_between of.old.next t.next of.old.script)
gained_found e handed back closed fit with i t at of = record {
  entered = entered;
  seen = seen;
  found = are_found library script entered fits ready same;
}
  where
    library : Catalog
    library = library_of e

    client : ℕ
    client = of.old.session.session.client

    had : List Call
    had = calls_by client of.old.session.session.seen

    entered : List Call
    entered = calls_by client of.gained.begins.0

    script : List Call
    script = calls_between of.old.next t.next of.old.script

    seen : calls_by client t.session.session.seen ≡ had ++ entered
    seen = ap (calls_by client) of.gained.begins.1 ∙ calls_by-append client of.old.session.session.seen of.gained.begins.0

    same : bares entered ≡ bares script
    same = append_cancel_left (bares had) (bares entered) (bares script) (sym (map-append bare had entered) ∙ sym (ap bares seen) ∙ of.gained.own ∙ map-append bare had script)

    fits : All (Fits library) script
    fits =
        All-take (Fits library) (t.next - of.old.next) (drop of.old.next of.old.script)
        (All-drop (Fits library) of.old.next of.old.script (all_at (IsFit e) handed of.index of.old fit of.at).fits)

    its : HasItsCalls (calls_in closed.journal.items) t.session.session
    its = all_at (λ (u : TokenShown). HasItsCalls (calls_in closed.journal.items) u.session.session) back i t with.seen at

    -- the journal has the calls that the session has seen of its client
    all_seen : calls_by client (calls_in closed.journal.items) ≡ had ++ entered
    all_seen =
        ap (λ n. calls_by n (calls_in closed.journal.items)) (sym of.whose)
        ∙ sym its.own
        ∙ ap (λ n. calls_by n t.session.session.seen) of.whose
        ∙ seen

    ready : All (IsReady library) entered
    ready = all_behind (IsReady library) had entered (subst (All (IsReady library)) all_seen (ready_by library client closed.journal.items with.serial.ready))

-- the journal's calls are the scripts', each client's in its own order
pub merged : (e : Named) (scripts : List (List Call)) (handed back : List TokenShown) (closed : Closed) → AreForScripts e scripts handed → AreBack handed back → All IsThrough back → IsClosedWith e back closed
    → IsMerge (library_of e) (calls_in closed.journal.items) scripts
merged e scripts handed back closed for h through with c =
    are_found library (unwrap_or (slice_get scripts c) []) (calls_by c (calls_in lines)) (fits (slice_get back c) refl) (ready_by library c lines with.serial.ready) (by_token (slice_get back c) refl)
  where
    library : Catalog
    library = library_of e

    lines : List Line
    lines = closed.journal.items

    homes : AreHome e scripts back
    homes = are_home e scripts handed back for h

    beyond : slice_get back c ≡ None → length scripts ≤ c
    beyond none = omega (arith, slice_get_none back c none, homes.count)

    script_at : (t : TokenShown) → slice_get back c ≡ Some t → slice_get scripts c ≡ Some t.script
    script_at t at = ap (slice_get scripts) (sym (homes.place c t at)) ∙ (homes.each c t at).script

    fits : (o : Option TokenShown) → slice_get back c ≡ o → All (Fits library) (unwrap_or (slice_get scripts c) [])
    fits None none = subst (λ (o : Option (List Call)). All (Fits library) (unwrap_or o [])) (sym (slice_get_past scripts c (beyond none))) (λ i d within. absurd (omega (arith, within)))
    fits (Some t) at =
        let of = all_at (IsOf handed) back c t h.own at in
        let old = all_at (IsFit e) handed of.index of.old for.fit of.at in
        subst (λ (o : Option (List Call)). All (Fits library) (unwrap_or o [])) (sym (script_at t at)) (subst (All (Fits library)) (sym of.script) old.fits)

    by_token : (o : Option TokenShown) → slice_get back c ≡ o → bares (calls_by c (calls_in lines)) ≡ bares (unwrap_or (slice_get scripts c) [])
    by_token None none =
        let clients : All (λ (l : Line). l.client < length scripts) lines = subst (λ n. All (λ (l : Line). l.client < n) lines) for.clients with.serial.clients in
        ap bares (no_calls (length scripts) c lines (beyond none) clients ∙ ap (λ (o : Option (List Call)). unwrap_or o []) (sym (slice_get_past scripts c (beyond none))))
    by_token (Some t) at =
        entered_by e scripts back closed homes with c t at
        ∙ ap bares (ap (λ n. take n t.script) (all_at IsThrough back c t through at) ∙ take-length t.script)
        ∙ ap (λ (o : Option (List Call)). bares (unwrap_or o [])) (sym (script_at t at))

-- ---- a run that is spent

-- the calls that the clients of these scripts have, from one client on
abbrev shares : List Made → ℕ → List (List Call) → ℕ
shares calls client [] = 0
shares calls client (script ∷ scripts) = length (calls_by client calls) + shares calls (suc client) scripts

-- one more call is the client's, or not
own_or_not : (m : Made) (calls : List Made) (client : ℕ) → ((length (calls_by client (m ∷ calls)) ≡ suc (length (calls_by client calls))) × (m.0 ≡ client)) ⊎ ((length (calls_by client (m ∷ calls)) ≡ length (calls_by client calls)) × (m.0 ≢ client))
own_or_not m calls client =
    let own = filter (λ (n : Made). n.0 == client) calls in
    let count : Bool → ℕ = λ b. length (map (λ (n : Made). n.1) (if b then m ∷ own else own)) in
    ⊎_elim
    (λ (same : ((m.0 == client) ≡ true) × (m.0 ≡ client)). inl (ap count same.0, same.1))
    (λ (apart : ((m.0 == client) ≡ false) × (m.0 ≢ client)). inr (ap count apart.0, apart.1))
    (eqb_tells m.0 client)

-- with one more call they have no fewer, and if it is of one of these clients they have more
one_more : (m : Made) (calls : List Made) (client : ℕ) (scripts : List (List Call)) → (shares calls client scripts ≤ shares (m ∷ calls) client scripts)
    × (client ≤ m.0 → m.0 < client + length scripts → shares calls client scripts < shares (m ∷ calls) client scripts)
one_more m calls client [] = (omega arith, λ from to. absurd (omega (arith, from, to)))
one_more m calls client (script ∷ scripts) =
    let rest = one_more m calls (suc client) scripts in (
      ⊎_elim
          (λ (own : (length (calls_by client (m ∷ calls)) ≡ suc (length (calls_by client calls))) × (m.0 ≡ client)). omega (arith, own.0, rest.0))
          (λ (other : (length (calls_by client (m ∷ calls)) ≡ length (calls_by client calls)) × (m.0 ≢ client)). omega (arith, other.0, rest.0))
          (own_or_not m calls client),
      λ from to. ⊎_elim
          (λ (own : (length (calls_by client (m ∷ calls)) ≡ suc (length (calls_by client calls))) × (m.0 ≡ client)). omega (arith, own.0, rest.0))
          (λ (other : (length (calls_by client (m ∷ calls)) ≡ length (calls_by client calls)) × (m.0 ≢ client)).
          let apart = other.1 in
          let more = rest.1 (omega (arith, from, apart)) (omega (arith, to)) in
          omega (arith, other.0, more))
          (own_or_not m calls client),
    )

-- if each call is of one of the clients, they have all calls
all_shared : (lines : List Line) (scripts : List (List Call)) → All (λ (l : Line). l.client < length scripts) lines → length (calls_in lines) ≤ shares (calls_in lines) 0 scripts
all_shared [] scripts all = omega arith
all_shared (l ∷ lines) scripts all =
    let first : l.client < length scripts = all 0 l (omega arith) in
    let rest = all_shared lines scripts (λ i d within. all (suc i) d (omega (arith, within))) in
    let more = (one_more (l.client, l.call) (calls_in lines) 0 scripts).1 (omega arith) (omega (arith, first)) in
    omega (arith, rest, more)

-- none of the clients has more calls than its script
abbrev AreWithin : List Made → ℕ → List (List Call) → Type 0
AreWithin calls client scripts = (i : ℕ) (script : List Call) → slice_get scripts i ≡ Some script → length (calls_by (client + i) calls) ≤ length script

first_within : (calls : List Made) (client : ℕ) (script : List Call) (scripts : List (List Call)) → AreWithin calls client (script ∷ scripts) → length (calls_by client calls) ≤ length script
first_within calls client script scripts each =
    let here : client + 0 ≡ client = omega arith in
    subst (λ n. length (calls_by n calls) ≤ length script) here (each 0 script refl)

rest_within : (calls : List Made) (client : ℕ) (script : List Call) (scripts : List (List Call)) → AreWithin calls client (script ∷ scripts) → AreWithin calls (suc client) scripts
rest_within calls client script scripts each i s at =
    let here : client + suc i ≡ suc client + i = omega arith in
    subst (λ n. length (calls_by n calls) ≤ length s) here (each (suc i) s at)

-- so they have no more than the scripts
no_more : (calls : List Made) (client : ℕ) (scripts : List (List Call)) → AreWithin calls client scripts → shares calls client scripts ≤ sum_by length scripts
no_more calls client [] each = omega arith
no_more calls client (script ∷ scripts) each =
    let first = first_within calls client script scripts each in
    let rest = no_more calls (suc client) scripts (rest_within calls client script scripts each) in
    let sum = sum_by-cons length script scripts in
    omega (arith, first, rest, sum)

-- and fewer, if one of them has fewer
fewer : (calls : List Made) (client : ℕ) (scripts : List (List Call)) → AreWithin calls client scripts → (j : ℕ) (short : List Call) → slice_get scripts j ≡ Some short → length (calls_by (client + j) calls) < length short
    → shares calls client scripts < sum_by length scripts
fewer calls client [] each j short at less = absurd (omega (arith, slice_get_within [] j short at))
fewer calls client (script ∷ scripts) each zero short at less =
    let here : client + 0 ≡ client = omega arith in
    let own : length (calls_by client calls) < length script = subst (λ (x : ℕ × List Call). length (calls_by x.0 calls) < length x.1) (λ i. (here i, same_Some short script (sym at) i)) less in
    let rest = no_more calls (suc client) scripts (rest_within calls client script scripts each) in
    let sum = sum_by-cons length script scripts in
    omega (arith, own, rest, sum)
fewer calls client (script ∷ scripts) each (suc j) short at less =
    let first = first_within calls client script scripts each in
    let here : client + suc j ≡ suc client + j = omega arith in
    let rest = fewer calls (suc client) scripts (rest_within calls client script scripts each) j short at (subst (λ n. length (calls_by n calls) < length short) here less) in
    let sum = sum_by-cons length script scripts in
    omega (arith, first, rest, sum)

-- if one of the tokens is spent, the engine took fewer calls than the scripts have
pub spent_early : (e : Named) (scripts : List (List Call)) (handed back : List TokenShown) (closed : Closed) → AreForScripts e scripts handed → AreBack handed back → OneIsSpent e.config.limit back → IsClosedWith e back closed
    → e.config.limit < sum_by length scripts
spent_early e scripts handed back closed for h spent with =
    let its = all_at (λ (u : TokenShown). HasItsCalls calls u.session.session) back spent.index spent.token with.seen spent.at in
    let long : length calls ≡ length spent.token.session.session.seen + length its.begins.0 = ap length its.begins.1 ∙ length-append spent.token.session.session.seen its.begins.0 in
    let clients : All (λ (l : Line). l.client < length scripts) closed.journal.items = subst (λ n. All (λ (l : Line). l.client < n) closed.journal.items) for.clients with.serial.clients in
    let all = all_shared closed.journal.items scripts clients in
    let own : length (calls_by (0 + spent.index) calls) < length spent.token.script =
    subst (λ n. length (calls_by n calls) < length spent.token.script) (sym (zero-add spent.index)) (omega (arith, count spent.index spent.token spent.at, spent.left)) in
    let less = fewer calls 0 scripts within spent.index spent.token.script (script_at spent.index spent.token spent.at) own in
    omega (arith, long, spent.full, all, less)
  where
    calls : List Made
    calls = calls_in closed.journal.items

    homes : AreHome e scripts back
    homes = are_home e scripts handed back for h

    script_at : (i : ℕ) (t : TokenShown) → slice_get back i ≡ Some t → slice_get scripts i ≡ Some t.script
    script_at i t at = ap (slice_get scripts) (sym (homes.place i t at)) ∙ (homes.each i t at).script

    count : (i : ℕ) (t : TokenShown) → slice_get back i ≡ Some t → length (calls_by i calls) ≡ min t.next (length t.script)
    count i t at =
        sym (length-map (calls_by i calls) bare)
        ∙ ap length (entered_by e scripts back closed homes with i t at)
        ∙ length-map (take t.next t.script) bare
        ∙ length-take t.next t.script

    within : AreWithin calls 0 scripts
    within i script at = by_token (slice_get back i) refl
      where
        by_token : (o : Option TokenShown) → slice_get back i ≡ o → length (calls_by (0 + i) calls) ≤ length script
        by_token None none = absurd (omega (arith, slice_get_none back i none, homes.count, slice_get_within scripts i script at))
        by_token (Some t) here =
            let same : t.script ≡ script = same_Some t.script script (sym (script_at i t here) ∙ at) in
            subst (λ (x : ℕ × List Call). length (calls_by x.0 calls) ≤ length x.1) (λ k. (sym (zero-add i) k, same k)) (omega (arith, count i t here))
