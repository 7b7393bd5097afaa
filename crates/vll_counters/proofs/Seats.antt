-- The steps, if the seat and its view, the words and what a step knows besides are known by equations.
use Rattle.std.proofs.Common.{◌≡◌, ◌≢◌, ℕ, zero, suc, ◌+◌, ◌-◌, ◌*◌, ◌%◌, ◌<◌, true, false, List, [], ◌∷◌, ◌++◌, length, length-append, ⊎_elim, refl, sym, ap, ◌∙◌, subst, arith, Option, Some, None, slice_get, slice_index, IfSome, IsSome, count_by, Bor}
use Rattle.vll_counters.proofs.Common.{option_map, TableId, Me, step, Allows, Splits, Joins, opening, Final, Claim, delta_of, pair_word_of_record, value_word_of, Call, apply, Line, is_waiting, is_running, AreLaid, laid_words, Base, catalog_of, writes, is_aborted, IsProper, TurnView, PassView, SessionView, QueueView, SeatView, View, Queue, Pass, Session, Rule, new_session, new_line, admitted, joined, spent, reply_of_pass, records_before_pass, pass_given, pass_at, pass_kept, pass_made, session_kept, session_given, more_clients, session_made, new_pass, Write, written, IsPastOf, LeadsTo, longer, seat_view, with_view, with_views, first_seat, spent_seat, Stays, Requested, Found, RuleWithHistory, IsAtEnd, AtQueue, KnowsPass, KnowsSession, RequestDoes, RequestTells, OpenTells, LoadTells, FindDoes, FindTells, StoreTells, ReleaseDoes, ReleaseTells, EndTells, MayRun, MayLeave, IsGivenOut, has_stored_pass, AreNewSessions, base_of, QueueShown, SessionShown, PassShown, shown_queue, settled, queue_in, queue_view, session_of, pass_of_view, next_claim, record_of, cases_eq}
use mathlib.Core.Option.{some, some-injective, some-ne-none}
use lib.ListN.{get_elem?}
use Rattle.atomic_table.specs.Table as table
use Rattle.atomic_table.specs.Table.{Seen as SeenBy}
use Rattle.vll_check.specs.Calls.{IsReady}
use Rattle.vll_check.specs.Headline.Catalog.{Catalog}
use Rattle.vll_check.specs.Catalog.{IsCatalog}
use Rattle.vll_core.proofs.Fitted.{proper_ready}
use Rattle.vll_counters.specs.declared.key.Key.{Key}
use Rattle.vll_counters.specs.History.{Released}
use Rattle.vll_counters.proofs.Lifting.{lifts_load, lifts_store, lifts_change, lifts_find, lifts_split, lifts_join, lowers_final}
use Rattle.vll_counters.proofs.PassSteps.{loads, stores, releases, release_fits}
use Rattle.vll_counters.proofs.Finding.{finds}
use Rattle.vll_counters.proofs.QueueSteps.{MayOpen, requests, request_fits, opens}
use Rattle.vll_counters.proofs.Giving.{gives, pass_there}
use Rattle.vll_counters.proofs.Places.{get_last, get_longer}
use Rattle.vll_counters.proofs.Coming.{comes_pass, comes_session, ends, leaves}
use Rattle.vll_counters.proofs.Bounds.{starts, makes_session, closes}

-- ---- what a seat shows is its view and its past

pub queue_me : {S : Type 0} (me : Me S SeatView) (z : TableId) (s : QueueShown) → me ≡ (seat_view (Queue (settled (queue_in me.0.view))) me.0.past, []) → shown_queue z me.0.past (queue_in me.0.view) ≡ s
    → me ≡ (seat_view (Queue (queue_view s)) s.past, [])
queue_me me z s is shown = is ∙ ap (λ (x : QueueShown). (seat_view (Queue (queue_view x)) x.past, [])) shown

pub pass_me : {S : Type 0} (me : Me S SeatView) (z : TableId) (s : PassShown) → me ≡ (seat_view (Pass (pass_of_view me.0.view)) me.0.past, []) → record { table = z; pass = pass_of_view me.0.view; past = me.0.past } ≡ s
    → me ≡ (seat_view (Pass s.pass) s.past, [])
pass_me me z s is shown = is ∙ ap (λ (x : PassShown). (seat_view (Pass x.pass) x.past, [])) shown

pub session_me : {S : Type 0} (me : Me S SeatView) (z : TableId) (s : SessionShown) → me ≡ (seat_view (Session (session_of me.0.view)) me.0.past, []) → record { table = z; session = session_of me.0.view; past = me.0.past } ≡ s
    → me ≡ (seat_view (Session s.session) s.past, [])
session_me me z s is shown = is ∙ ap (λ (x : SessionShown). (seat_view (Session x.session) x.past, [])) shown

-- ---- words of a record are there

pub pair_there : (base b : Base) (words r word : ℕ) → base ≡ b → words ≡ 1 + 2 * length base.records → r < length b.records → word ≡ pair_word_of_record r → word < words
pair_there base b words r word same many low is = let n : length base.records ≡ length b.records = ap (λ (x : Base). length x.records) same in omega arith

pub value_there : (base b : Base) (words r word : ℕ) → base ≡ b → words ≡ 1 + 2 * length base.records → r < length b.records → word ≡ value_word_of r → word < words
value_there base b words r word same many low is = let n : length base.records ≡ length b.records = ap (λ (x : Base). length x.records) same in omega arith

-- ---- the claim whose record is known

claim_of : (x : Option Claim) (r : ℕ) → record_of x ≡ Some r → (c : Claim) × (x ≡ Some c) × (c.id ≡ r)
claim_of None r e = absurd (cc e)
claim_of (Some c) r e = (c, refl, cc e)

turn_of_claim : (x : Option TurnView) (c : Claim) → next_claim x ≡ Some c → (turn : TurnView) × (x ≡ Some turn) × (slice_get turn.call.claims turn.requested ≡ Some c)
turn_of_claim None c e = absurd (cc e)
turn_of_claim (Some turn) c e = (turn, refl, e)

-- a call that is ready is proper, and there is room for it
pub may_open : (base : Base) (library : Catalog) (lines : List Line) (call : Option (Bor Call)) → IsCatalog library → library ≡ catalog_of base → IfSome call (λ (b : Bor Call). IsReady (catalog_of base) b.now)
    → IfSome call (λ _. length lines < 65536) → MayOpen base lines (option_map (λ (b : Bor Call). b.now) call)
may_open base library lines None catalog same ready room c is = absurd (cc is)
may_open base library lines (Some d) catalog same ready room c is =
    subst (λ (x : Call). IsProper base x × (length lines < 65536)) (cc is) (proper_ready (catalog_of base) base.records d.now (subst IsCatalog same catalog) refl ready, room)

-- what a step of a view tells, if nothing else is known of the step
abbrev no_step : table.Step (Unit {0})
no_step = step 0 0 0 0 mathlib.Core.Option.none

module _ (slots : ℕ) where
  pub requests_at : (base b d : Base) (id : ℕ) (me : Me (Unit {0}) SeatView) (q : QueueView) (past : List Write) (c e : Claim) (word k : ℕ) → base ≡ b → d ≡ b → e ≡ c → id ≡ 0 → me ≡ (seat_view (Queue q) past, []) → word ≡ pair_word_of_record c.id
      → k ≡ delta_of c.mode → next_claim q.turn ≡ Some c → c.id < length b.records
      → Allows (RuleWithHistory {S = Unit {0}} base) slots id me word (λ n. (n + k) % 18446744073709551616) (Requested d e no_step me)
  requests_at base b d id me q past c e word k same told claim i is at by next low =
      let turn = turn_of_claim q.turn c next in
      rw (same, told, claim, i, is, at, by)
      (lifts_change b slots 0 (Queue q) [] past (pair_word_of_record c.id) (λ n. (n + delta_of c.mode) % 18446744073709551616) (λ n. n + delta_of c.mode)
      (RequestDoes c no_step (Queue q, [])) (λ words. RequestTells b c words (Queue q, [])) (λ words n w told. request_fits b q turn.0 c words n turn.1 turn.2 low told) (requests b slots q turn.0 c turn.1 turn.2 low))

  pub opens_at : (base b d : Base) (id : ℕ) (me : Me (Unit {0}) SeatView) (q : QueueView) (past : List Write) (call given : Option Call) → base ≡ b → d ≡ b → given ≡ call → id ≡ 0 → me ≡ (seat_view (Queue q) past, []) → q.turn ≡ None
      → MayOpen b q.lines call
      → Allows (RuleWithHistory {S = Unit {0}} base) slots id me 0 (λ n. n) (Stays (OpenTells d given) no_step me)
  opens_at base b d id me q past call given same told brings i is closed may =
      rw (same, told, brings, i, is) (lifts_load b slots 0 (Queue q) [] past 0 (OpenTells b call no_step (Queue q, [])) (opens b slots q call closed may))

  pub loads_at : (base b d : Base) (id : ℕ) (me : Me (Unit {0}) SeatView) (p : PassView) (past : List Write) (r n word : ℕ) → base ≡ b → d ≡ b → n ≡ r → me ≡ (seat_view (Pass p) past, []) → word ≡ value_word_of r
      → record_of (slice_get p.call.claims p.loads) ≡ Some r → r < length b.records
      → Allows (RuleWithHistory {S = Unit {0}} base) slots id me word (λ n. n) (Stays (LoadTells d n) no_step me)
  loads_at base b d id me p past r n word same told number is at next low =
      let c = claim_of (slice_get p.call.claims p.loads) r next in
      rw (same, told, number ∙ sym c.2, is, at ∙ ap value_word_of (sym c.2))
      (lifts_load b slots id (Pass p) [] past (value_word_of c.0.id) (LoadTells b c.0.id no_step (Pass p, [])) (loads b slots id p c.0 c.1 (subst (λ m. m < length b.records) (sym c.2) low)))

  pub finds_at : (base b d : Base) (id : ℕ) (me : Me (Unit {0}) SeatView) (g : SessionView) (past : List Write) (r n word : ℕ) → base ≡ b → d ≡ b → n ≡ r → me ≡ (seat_view (Session g) past, []) → word ≡ value_word_of r → r < length b.records
      → Allows (RuleWithHistory {S = Unit {0}} base) slots id me word (λ n. n) (Found d n no_step me)
  finds_at base b d id me g past r n word same told number is at low =
      rw (same, told, number, is, at) (lifts_find b slots id (Session g) [] past (value_word_of r) (FindDoes no_step (Session g, [])) (λ words. FindTells b r words (Session g, [])) (finds b slots id g r low))

  pub stores_at : (base b : Base) (id : ℕ) (me : Me (Unit {0}) SeatView) (p : PassView) (past : List Write) (r word new : ℕ) → base ≡ b → me ≡ (seat_view (Pass p) past, []) → word ≡ value_word_of r
      → record_of (slice_get (writes p.call) p.stores) ≡ Some r → r < length b.records → p.loads ≡ length p.call.claims → is_aborted (reply_of_pass b p) ≡ false
      → new ≡ slice_index (apply b.procs p.call (records_before_pass b p)).records r
      → Allows (RuleWithHistory {S = Unit {0}} base) slots id me word (λ _. new) (λ _. Stays StoreTells no_step me new)
  stores_at base b id me p past r word new same is at next low all commits right =
      let c = claim_of (slice_get (writes p.call) p.stores) r next in
      rw (same, is, at ∙ ap value_word_of (sym c.2))
      (lifts_store b slots id (Pass p) [] past (value_word_of c.0.id) new (λ _. StoreTells no_step (Pass p, []) new)
      (stores b slots id p c.0 new c.1 (subst (λ m. m < length b.records) (sym c.2) low) all commits (right ∙ ap (slice_index (apply b.procs p.call (records_before_pass b p)).records) (sym c.2))))

  pub releases_at : (base b d : Base) (id : ℕ) (me : Me (Unit {0}) SeatView) (p : PassView) (past : List Write) (c e : Claim) (word k : ℕ) → base ≡ b → d ≡ b → e ≡ c → me ≡ (seat_view (Pass p) past, []) → word ≡ pair_word_of_record c.id → k ≡ delta_of c.mode
      → slice_get p.call.claims p.releases ≡ Some c → c.id < length b.records → has_stored_pass b p ≡ true
      → Allows (RuleWithHistory {S = Unit {0}} base) slots id me word (λ n. (n + (18446744073709551616 - k)) % 18446744073709551616) (Released d e no_step me)
  releases_at base b d id me p past c e word k same told claim is at by next low all =
      rw (same, told, claim, is, at, by)
      (lifts_change b slots id (Pass p) [] past (pair_word_of_record c.id) (λ n. (n + (18446744073709551616 - delta_of c.mode)) % 18446744073709551616) (λ n. n - delta_of c.mode)
      (ReleaseDoes no_step (Pass p, [])) (λ words. ReleaseTells b c.id words (Pass p, [])) (λ words n w told. release_fits b p c words n next told) (releases b slots id p c next low all))

  pub ends_at : (base b d : Base) (id : ℕ) (me : Me (Unit {0}) SeatView) (q : QueueView) (past : List Write) (p : PassView) → base ≡ b → d ≡ b → id ≡ 0 → me ≡ (seat_view (Queue q) past, []) → q.pass ≡ Some p → q.turn ≡ None → has_stored_pass b p ≡ true
      → p.releases ≡ length p.call.claims
      → Allows (RuleWithHistory {S = Unit {0}} base) slots id me 0 (λ n. n) (Stays (EndTells d) no_step me)
  ends_at base b d id me q past p same told i is has closed all released =
      rw (same, told, i, is) (lifts_load b slots 0 (Queue q) [] past 0 (EndTells b no_step (Queue q, [])) (ends b slots q p has closed all released))

module _ {S : Type 0} where
  pub gives_at : (base b : Base) (id n m : ℕ) (v : SeatView) (q : QueueView) (past : List Write) → base ≡ b → id ≡ 0 → n ≡ m → v ≡ seat_view (Queue q) past → MayRun q.lines q.statuses q.turn m
      → Splits (RuleWithHistory {S = S} base) id v (with_view (pass_kept n) v) (with_view (pass_made n) v)
  gives_at base b id n m v q past same i number is may = rw (same, i, number, is) (lifts_split b 0 (Queue q) (pass_kept m (Queue q)) (pass_made m (Queue q)) past (gives b q m q.turn refl may))

  pub leaves_at : (base b : Base) (id : ℕ) (v : SeatView) (q : QueueView) (past : List Write) (given told : Option ℕ) → base ≡ b → id ≡ 0 → told ≡ given → v ≡ seat_view (Queue q) past → IsSome q.session → MayLeave q.turn → IsGivenOut q.statuses given
      → Splits (RuleWithHistory {S = S} base) id v (with_view session_kept v) (with_view (session_given told) v)
  leaves_at base b id v q past given told same i gives is there may out = rw (same, i, gives, is) (lifts_split b 0 (Queue q) (session_kept (Queue q)) (session_given given (Queue q)) past (by_session q.session refl there))
    where
      by_session : (x : Option SessionView) → q.session ≡ x → IsSome x → Splits (Rule {S = S} b) 0 (Queue q) (session_kept (Queue q)) (session_given given (Queue q))
      by_session None is h = absurd (cc h)
      by_session (Some g) is h = leaves b q g given q.turn refl is may out

  pub comes_pass_at : (base b : Base) (id other : ℕ) (v u : SeatView) (q : QueueView) (past others : List Write) (p : PassView) → base ≡ b → id ≡ 0 → v ≡ seat_view (Queue q) past → u ≡ seat_view (Pass p) others → q.pass ≡ None
      → Joins (RuleWithHistory {S = S} base) id v other u (with_views joined v u) spent_seat
  comes_pass_at base b id other v u q past others p same i is has empty = rw (same, i, is, has) (lifts_join b 0 (Queue q) past other (Pass p) others (joined (Queue q) (Pass p)) spent (comes_pass b q other p empty))

  pub comes_session_at : (base b : Base) (id other : ℕ) (v u : SeatView) (q : QueueView) (past others : List Write) (g : SessionView) → base ≡ b → id ≡ 0 → v ≡ seat_view (Queue q) past → u ≡ seat_view (Session g) others → q.session ≡ None
      → q.turn ≡ None → Joins (RuleWithHistory {S = S} base) id v other u (with_views joined v u) spent_seat
  comes_session_at base b id other v u q past others g same i is has alone closed =
      rw (same, i, is, has) (lifts_join b 0 (Queue q) past other (Session g) others (joined (Queue q) (Session g)) spent (comes_session b q other g alone closed))

  pub makes_at : (base b : Base) (id : ℕ) (v : SeatView) (q : QueueView) (past : List Write) → base ≡ b → id ≡ 0 → v ≡ seat_view (Queue q) past → q.lines ≡ []
      → Splits (RuleWithHistory {S = S} base) id v (with_view more_clients v) (with_view session_made v)
  makes_at base b id v q past same i is empty = rw (same, i, is) (lifts_split b 0 (Queue q) (more_clients (Queue q)) (session_made (Queue q)) past (makes_session b q empty))

-- ---- the results of a split and of a join

-- a given pass's seat has the view of a pass
pub given_pass : {S : Type 0} (me seat : Me S SeatView) (n m : ℕ) (q : QueueView) (past : List Write) → n ≡ m → me ≡ (seat_view (Queue q) past, []) → MayRun q.lines q.statuses q.turn m → seat ≡ (with_view (pass_made n) me.0, [])
    → seat ≡ (seat_view (Pass (pass_of_view seat.0.view)) seat.0.past, [])
given_pass {S} me seat n m q past number is may given =
    let p = run_pass q m q.turn may in
    let whole : seat ≡ (seat_view (Pass p.0) past, []) = given ∙ (λ i. (with_view (pass_made (number i)) (is i).0, [])) ∙ ap (λ (v : View). (seat_view v past, [])) p.1 in
    whole ∙ sym (ap (λ (x : Me S SeatView). (seat_view (Pass (pass_of_view x.0.view)) x.0.past, [])) whole)
  where
    run_pass : (q : QueueView) (n : ℕ) (x : Option TurnView) → MayRun q.lines q.statuses x n → (p : PassView) × (pass_at n (pass_given n x q).lines ≡ Pass p)
    run_pass q n None may = (new_pass n may.line.call q.lines, pass_there n q.lines may.line may.at)
    run_pass q n (Some turn) may =
        (new_pass n turn.call (admitted turn q).lines, pass_there n (admitted turn q).lines (new_line turn) (ap (slice_get (admitted turn q).lines) may.next ∙ get_last q.lines (new_line turn)))

pub joined_pass : {S : Type 0} (me other : Me S SeatView) (q : QueueView) (past others : List Write) (p : PassView) → me ≡ (seat_view (Queue q) past, []) → other ≡ (seat_view (Pass p) others, [])
    → ◌≡◌ {A = Me S SeatView} (with_views joined me.0 other.0, me.1) (seat_view (Queue (record q { pass = Some p })) (longer past others), [])
joined_pass me other q past others p is has = λ i. (with_views joined (is i).0 (has i).0, (is i).1)

pub joined_session : {S : Type 0} (me other : Me S SeatView) (q : QueueView) (past others : List Write) (g : SessionView) → me ≡ (seat_view (Queue q) past, []) → other ≡ (seat_view (Session g) others, [])
    → ◌≡◌ {A = Me S SeatView} (with_views joined me.0 other.0, me.1) (seat_view (Queue (record q { session = Some g })) (longer past others), [])
joined_session me other q past others g is has = λ i. (with_views joined (is i).0 (has i).0, (is i).1)

-- what is known of a pass that has joined
pub told_pass : {S : Type 0} (me : Me S SeatView) (q : QueueView) (past : List Write) (p : PassView) → me ≡ (seat_view (Queue (record q { pass = Some p })) past, []) → AtQueue (λ x. (y : PassView) → x.pass ≡ Some y → KnowsPass x y) me.0.view → KnowsPass q p
told_pass {S} me q past p is knows = let k = (subst (λ (m : Me S SeatView). AtQueue (λ x. (y : PassView) → x.pass ≡ Some y → KnowsPass x y) m.0.view) is knows) p refl in
    record { line = k.line; at = k.at; call = k.call; runs = k.runs; seen = k.seen }

-- and of a session
pub told_session : {S : Type 0} (b d : Base) (me : Me S SeatView) (q : QueueView) (past : List Write) (g : SessionView) → d ≡ b → me ≡ (seat_view (Queue (record q { session = Some g })) past, [])
    → AtQueue (λ x. (y : SessionView) → x.session ≡ Some y → KnowsSession d x y) me.0.view → KnowsSession b q g
told_session {S} b d me q past g told is knows =
    let k = (subst (λ (m : Me S SeatView). AtQueue (λ x. (y : SessionView) → x.session ≡ Some y → KnowsSession d x y) m.0.view) is knows) g refl in
    subst (λ (x : Base). KnowsSession x q g) told (record { client = k.client; has_seen = k.has_seen; replied = k.replied })

-- the library of the words is that of their base
pub library_is : (library : Catalog) (records : List ℕ) (b : Base) → record { procs = library.procs; records = records } ≡ b → library.records ≡ length records → library ≡ catalog_of b
library_is library records b same many = (λ i. let c : Catalog = record { records = many i; procs = library.procs } in c) ∙ ap catalog_of same

-- ---- the opening and the end

pub starts_at : {S : Type 0} (key : Key) (records words ws : List ℕ) → AreLaid records words → words ≡ laid_words records → ws ≡ words → key.records.value.items ≡ records → RuleWithHistory {S = S} (base_of key) (opening ws [] first_seat)
starts_at key records words ws first list laid is = record {
  rule = starts (base_of key) ws (subst (λ (p : List ℕ × List ℕ). AreLaid p.0 p.1) (λ i. (sym is i, sym laid i)) first);
  history = record { all = []; words = laid ∙ list ∙ ap laid_words (sym is); pasts = λ seat k at. none_yet seat k at };
}
  where
    none_yet : (seat : ℕ) (k : SeatView) → get_elem? (first_seat ∷ []) seat ≡ some k → IsPastOf k.past []
    none_yet zero k at = subst (λ (x : SeatView). IsPastOf x.past []) (some-injective first_seat k at) ([], refl)
    none_yet (suc seat) k at = absurd (some-ne-none k (sym at))

pub closes_at : (base b : Base) (id : ℕ) (me : Me (Unit {0}) SeatView) (q : QueueView) (past : List Write) (words ws : List ℕ) (slots : List (Unit {0})) → base ≡ b → id ≡ 0 → me ≡ (seat_view (Queue q) past, []) → q.turn ≡ None
    → count_by is_waiting q.statuses ≡ 0 → count_by is_running q.statuses ≡ 0 → Final (SeenBy (RuleWithHistory {S = Unit {0}} base) id me.0) words slots → ws ≡ words → IsAtEnd b q.lines ws
closes_at base b id me q past words ws slots same i is closed none_wait none_run final copied =
    let last = lowers_final base id me.0 words slots final in
    subst (λ (p : Base × List ℕ). IsAtEnd p.0 q.lines p.1) (λ j. (same j, sym copied j))
    (closes base q words last.0 (subst (λ (p : ℕ × View). SeenBy (Rule {S = Unit {0}} base) p.0 p.1 last.0) (λ j. (i j, (is j).0.view)) last.1) last.2 closed none_wait none_run)

-- the writes up to the end
pub closes_history : (base b : Base) (id : ℕ) (me : Me (Unit {0}) SeatView) (q : QueueView) (past : List Write) (words ws : List ℕ) (slots : List (Unit {0})) → base ≡ b → me ≡ (seat_view (Queue q) past, [])
    → Final (SeenBy (RuleWithHistory {S = Unit {0}} base) id me.0) words slots → ws ≡ words → LeadsTo (laid_words b.records) past ws
closes_history base b id me q past words ws slots same is final copied =
    let k = final.1.0 in
    let all = k.history.all in record {
      all = all;
      goes_on = subst (λ (x : Me (Unit {0}) SeatView). IsPastOf x.0.past all) is (k.history.pasts id me.0 final.1.1);
      words_are = copied ∙ sym final.2 ∙ k.history.words ∙ ap (λ (x : Base). written (laid_words x.records) all) same;
    }

-- one more client's session
pub sessions_more : (table : TableId) (n : ℕ) (xs ys : List SessionShown) (x : SessionShown) → AreNewSessions table n xs → x ≡ record { table = table; session = new_session n; past = [] } → ys ≡ xs ++ x ∷ [] → AreNewSessions table (n + 1) ys
sessions_more table n xs ys x are is longer = (
  ap length longer ∙ length-append xs (x ∷ []) ∙ ap (λ m. m + 1) are.0,
  λ c low. ap (λ (l : List SessionShown). slice_get l c) longer ∙ ⊎_elim
      (λ (e : c ≡ n). ap (slice_get (xs ++ x ∷ [])) (e ∙ sym are.0) ∙ get_last xs x ∙ ap Some is ∙ ap (λ m. Some (record { table = table; session = new_session m; past = [] })) (sym e))
      (λ (e : c ≢ n). let below : c < n = omega (arith, low, e) in get_longer xs (x ∷ []) c _ (are.1 c below))
      (cases_eq c n),
)

pub sessions_none : (table : TableId) (xs : List SessionShown) → xs ≡ [] → AreNewSessions table 0 xs
sessions_none table xs none = (ap length none, λ c low. absurd (omega (arith, low)))

-- all clients have theirs
pub sessions_all : (table : TableId) (n m : ℕ) (xs : List SessionShown) → n ≡ m → AreNewSessions table n xs → AreNewSessions table m xs
sessions_all table n m xs e are = subst (λ k. AreNewSessions table k xs) e are
