-- What a call's entry does to the queue's seat, to its session and to the invariant of the lock's type, and why a call
-- is refused.
use Rattle.std.proofs.Common.{◌≡◌, ℕ, suc, ◌+◌, ◌<◌, Bool, true, false, nat_le, List, [], ◌∷◌, ◌++◌, length, All, Option, Some, None, slice_get, refl, sym, ap, ◌∙◌, subst, arith, cond, if◌then◌else◌}
use Rattle.std.specs.Prelude.{IfSome, count_by}
use Rattle.std.proofs.lemmas.Bool.{leb-true}
use Rattle.std.proofs.lemmas.List.{map-append, length-map, take_all, length-append}
use Rattle.std.proofs.lemmas.List.Elements.{All-push}
use Rattle.std.proofs.lemmas.List.Sums.{sum_by-append}
use Rattle.atomic_table.specs.Seated.{TableId}
use Rattle.vll_record.specs.declared.claim.Claim.{Claim}
use Rattle.vll_proc.specs.declared.call.Call.{Call}
use Rattle.vll_check.specs.Headline.Calls.{source}
use Rattle.vll_check.specs.Calls.{IsReady}
use Rattle.vll_check.specs.Catalog.{IsCatalog}
use Rattle.vll_check.proofs.Fitting.{ready_well}
use Rattle.vll_sca.specs.declared.status.Status.{Status}
use Rattle.vll_sca.specs.declared.status.Status.TheVariants.{Running, Waiting}
use Rattle.vll_sca.specs.Headline.Status.{is_waiting}
use Rattle.vll_core.specs.declared.line.Line.{Line}
use Rattle.vll_core.specs.Headline.State.{Base}
use Rattle.vll_core.specs.Queue.{QueueEntry, Queued, IsQueued, lines, statuses, entry, admitted}
use Rattle.vll_core.proofs.QueueLaws.{lines_admitted, statuses_admitted}
use Rattle.vll_counters.specs.declared.views.SessionView.{SessionView}
use Rattle.vll_counters.specs.Headline.Views.{calls_in}
use Rattle.vll_counters.specs.Written.{Write}
use Rattle.vll_counters.specs.Shown.{QueueShown, SessionShown, PassShown, WordsShown, queue_view, after, without_session, left_session, with_pass_given}
use Rattle.vll_counters.specs.Steps.{turn_of, new_pass, told}
use Rattle.vll_counters.specs.Told.{KnowsSession}
use Rattle.vll_counters.proofs.Places.{get_last}
use Rattle.vll_queue.specs.declared.begun.BeginRefusal.{BeginRefusal}
use Rattle.vll_queue.specs.declared.begun.BeginRefusal.TheVariants.{Spent, Busy}
use Rattle.vll_queue.specs.Begin.{IsPassFor, IsRefused, refusal}
use Rattle.vll_queue.specs.Headline.Sessions.{SawOwn}
use Rattle.vll_queue.specs.Shown.{Named, library_of, words_of}
use Rattle.vll_queue.specs.Admission.{asked_turn}
use Rattle.vll_queue.specs.Headline.Found.{FoundThere, AreFoundThere}
use Rattle.vll_queue.specs.Private.Kept.{AreOwn, IsKept}
use Rattle.vll_queue.specs.Looked.{IsLookedUp}
use Rattle.vll_queue.proofs.There.{found_more, looked_up_next}
use Rattle.vll_queue.proofs.Learning.{saw_own}
use Rattle.vll_queue.proofs.Starting.{new_pass_fresh}

-- ---- why a call is refused

-- what a session has seen, and the number of calls it knows to wait, determine why
pub refused : {H : Type 0} (e : Named) (q : Queued H) (g : SessionView) (why : BeginRefusal) → IsQueued q → q.limit ≡ e.config.limit → q.cap ≡ e.config.cap → ◌≡◌ {A = Option BeginRefusal} (Some why) (refusal q)
    → g.seen ≡ calls_in (lines q) → g.waited ≡ count_by is_waiting (statuses q) → IsRefused e g why
refused {H = H} e q g why queued limit cap is seen waited = by_tests why (nat_le q.limit (length q.entries)) (nat_le q.cap (count_by is_waiting (statuses q))) refl refl is
  where
    long : length g.seen ≡ length q.entries
    long = ap length seen ∙ length-map (lines q) (λ (l : Line). (l.client, l.call)) ∙ length-map q.entries (λ (x : QueueEntry). x.line)

    by_tests : (w : BeginRefusal) (full many : Bool) → nat_le q.limit (length q.entries) ≡ full → nat_le q.cap (count_by is_waiting (statuses q)) ≡ many
        → ◌≡◌ {A = Option BeginRefusal} (Some w) (if full then Some Spent else (if many then Some Busy else None)) → IsRefused e g w
    by_tests Spent true many full is_many at =
        let least = leb-true q.limit (length q.entries) full in let most = queued.within in omega (arith, long, least, most, limit)
    by_tests Spent false true full is_many at = absurd (cc at)
    by_tests Spent false false full is_many at = absurd (cc at)
    by_tests Busy true many full is_many at = absurd (cc at)
    by_tests Busy false true full is_many at =
        let least = leb-true q.cap (count_by is_waiting (statuses q)) is_many in let most = queued.capped in omega (arith, waited, least, most, cap)
    by_tests Busy false false full is_many at = absurd (cc at)

-- the records of a call's claims are there
pub claims_there : (e : Named) (w : WordsShown) (call : Call) → w ≡ words_of e → IsCatalog (library_of e) → IsReady (library_of e) call → All (λ (d : Claim). d.id < length w.base.records) call.claims
claims_there e w call is catalog ready = subst (λ (x : WordsShown). All (λ (d : Claim). d.id < length x.base.records) call.claims) (sym is) (ready_well (library_of e) call catalog ready).within

-- ---- the queue's seat and the session

-- the line of a call that enters
abbrev line_of : ℕ → Call → Line
line_of client call = record { client = client; call = call; reply = None }

-- it runs if all its requests were granted
abbrev status_of : Bool → Status
status_of free = if free then Running else Waiting

-- the seat once the turn has requested all its claims
abbrev asked_seat : QueueShown → SessionView → ℕ → Call → Bool → List Write → QueueShown
asked_seat s g client call free past = record s { turn = Some (asked_turn client call free); session = Some g; past = past }

-- the seat once the call has entered and its session has left
abbrev entered_seat : QueueShown → ℕ → Call → Bool → List Write → QueueShown
entered_seat s client call free past =
    record { table = s.table; lines = s.lines ++ line_of client call ∷ []; statuses = s.statuses ++ status_of free ∷ []; turn = None; session = None; clients = s.clients; past = past }

-- the session that has left has seen its call
abbrev entered_session : QueueShown → SessionView → ℕ → Call → Bool → List Write → SessionShown
entered_session s g client call free past =
    record { table = s.table; session = record g { seen = calls_in (s.lines ++ line_of client call ∷ []); waited = count_by is_waiting (s.statuses ++ status_of free ∷ []) }; past = past }

pub record HasEntered (old seat : QueueShown) (g : SessionView) (client : ℕ) (call : Call) (free : Bool) (left : SessionShown) : Type 0 where
  pub past : List Write
  pub seat_is : seat ≡ entered_seat old client call free past
  pub session_is : left ≡ entered_session old g client call free past

-- a turn opens and requests all its claims
pub all_asked : (old joined asked : QueueShown) (before past : List Write) (g : SessionView) (client : ℕ) (call : Call) (free : Bool) → joined ≡ record old { session = Some g; turn = turn_of (Some call) (Some g); past = before }
    → asked ≡ record joined { turn = Some (asked_turn client call free); past = past } → asked ≡ asked_seat old g client call free past
all_asked old joined asked before past g client call free opens asks =
    asks ∙ ap (λ (s : QueueShown). let x : QueueShown = record s { turn = Some (asked_turn client call free); past = past } in x) opens

-- the call is blocked: it enters as its session leaves
pub entered_blocked : (old asked seat : QueueShown) (past : List Write) (g : SessionView) (client : ℕ) (call : Call) (free : Bool) (left : SessionShown) → asked ≡ asked_seat old g client call free past
    → seat ≡ after asked (without_session asked) → IfSome asked.session (λ (h : SessionView). left ≡ left_session asked None h) → HasEntered old seat g client call free left
entered_blocked old asked seat past g client call free left is now leaves = record {
  past = past;
  seat_is = now ∙ ap (λ (s : QueueShown). after s (without_session s)) is;
  session_is = subst (λ (s : QueueShown). IfSome s.session (λ (h : SessionView). left ≡ left_session s None h)) is leaves;
}

-- the seat once the call has entered with its pass
abbrev given_seat : QueueShown → SessionView → ℕ → Call → Bool → List Write → QueueShown
given_seat s g client call free past = record (entered_seat s client call free past) { session = Some (told (calls_in (s.lines ++ line_of client call ∷ [])) g) }

pub pass_given_seat : (old asked given : QueueShown) (past : List Write) (g : SessionView) (client : ℕ) (call : Call) (free : Bool) (t : ℕ) → asked ≡ asked_seat old g client call free past
    → given ≡ after asked (with_pass_given asked t) → given ≡ given_seat old g client call free past
pass_given_seat old asked given past g client call free t is now = now ∙ ap (λ (s : QueueShown). after s (with_pass_given s t)) is

-- the call is free: it enters as its pass is given, and its session leaves
pub entered_free : (old given seat : QueueShown) (past : List Write) (g : SessionView) (client : ℕ) (call : Call) (free : Bool) (left : SessionShown) → given ≡ given_seat old g client call free past
    → seat ≡ after given (without_session given) → IfSome given.session (λ (h : SessionView). left ≡ left_session given None h) → HasEntered old seat g client call free left
entered_free old given seat past g client call free left is now leaves = record {
  past = past;
  seat_is = now ∙ ap (λ (s : QueueShown). after s (without_session s)) is;
  session_is = subst (λ (s : QueueShown). IfSome s.session (λ (h : SessionView). left ≡ left_session s None h)) is leaves;
}

-- ---- the lock's type

-- what is true of all lines is true with one more
own_more : (e : Named) (ls : List Line) (client : ℕ) (call : Call) → AreOwn e ls → client < e.clients → IsReady (library_of e) call
    → ((r : ℕ) → source (library_of e) call ≡ Some r → FoundThere e.base (calls_in ls) (length (calls_in ls)) call r) → AreOwn e (ls ++ line_of client call ∷ [])
own_more e ls client call own low ready found = record {
  ready = All-push (λ (l : Line). IsReady (library_of e) l.call) ls (line_of client call) own.ready ready;
  clients = All-push (λ (l : Line). l.client < e.clients) ls (line_of client call) own.clients low;
  found = subst (AreFoundThere e.base) (sym (map-append (λ (l : Line). (l.client, l.call)) ls (line_of client call ∷ []))) (found_more e.base (calls_in ls) (client, call) own.found found);
}

-- its client is one of the engine's
client_there : {H : Type 0} (e : Named) (place : H → ℕ → ℕ) (base : Base) (old : QueueShown) (q : Queued H) (g : SessionView) (client : ℕ) → IsKept e place old q → KnowsSession base (queue_view old) g → g.client ≡ client → client < e.clients
client_there e place base old q g client kept knows own = let below = knows.client in let count = kept.count in omega (arith, below, count, own)

pub kept_entered : {H : Type 0} (e : Named) (place : H → ℕ → ℕ) (base : Base) (old seat : QueueShown) (q new : Queued H) (g : SessionView) (client : ℕ) (call : Call) (free : Bool) (left : SessionShown)
    → IsKept e place old q → KnowsSession base (queue_view old) g → HasEntered old seat g client call free left → new ≡ admitted q (entry client call free) → g.client ≡ client → IsReady (library_of e) call → IsLookedUp e g call
    → IsKept e place seat new
kept_entered {H = H} e place base old seat q new g client call free left kept knows entered is own ready up =
    let low = client_there e place base old q g client kept knows own in
    subst (λ (x : QueueShown × Queued H). IsKept e place x.0 x.1) (λ i. (sym entered.seat_is i, sym is i)) (record {
      same = kept.same;
      closed = refl;
      alone = refl;
      count = kept.count;
      lines_are = ap (λ (ls : List Line). ls ++ line_of client call ∷ []) kept.lines_are ∙ sym (lines_admitted q (entry client call free));
      statuses_are = ap (λ (ss : List Status). ss ++ status_of free ∷ []) kept.statuses_are ∙ sym (statuses_admitted q (entry client call free));
      cap = kept.cap;
      limit = kept.limit;
      bits = kept.bits;
      places = kept.places;
      own = subst (AreOwn e) (sym (lines_admitted q (entry client call free))) (own_more e (lines q) client call kept.own low ready
          (λ r source_is. subst (λ (ls : List Line). FoundThere e.base (calls_in ls) (length (calls_in ls)) call r) kept.lines_are (looked_up_next e (calls_in old.lines) old.statuses g call r knows.has_seen (up r source_is))));
    })

-- ---- the answer

-- the next ticket is the number of the lines
next_ticket : {H : Type 0} (e : Named) (place : H → ℕ → ℕ) (old : QueueShown) (q : Queued H) (t : ℕ) → IsKept e place old q → t ≡ length q.entries → t ≡ length old.lines
next_ticket e place old q t kept last = last ∙ sym (length-map q.entries (λ (x : QueueEntry). x.line)) ∙ sym (ap length kept.lines_are)

-- the session has seen its call, whose ticket is its place
pub entered_own : {H : Type 0} (e : Named) (place : H → ℕ → ℕ) (base : Base) (old seat : QueueShown) (q : Queued H) (g : SessionView) (client : ℕ) (call : Call) (free : Bool) (left : SessionShown) (ticket : ℕ)
    → IsKept e place old q → KnowsSession base (queue_view old) g → HasEntered old seat g client call free left → g.client ≡ client → ticket ≡ length q.entries → SawOwn g left.session call ticket
entered_own e place base old seat q g client call free left ticket kept knows entered own last = saw_own (calls_in old.lines) old.statuses g left.session call ticket knows.has_seen
    (ap (λ (s : SessionShown). s.session.client) entered.session_is)
    (ap (λ (s : SessionShown). s.session.seen) entered.session_is
    ∙ map-append (λ (l : Line). (l.client, l.call)) old.lines (line_of client call ∷ [])
    ∙ ap (λ (n : ℕ). calls_in old.lines ++ (n, call) ∷ []) (sym own))
    (next_ticket e place old q ticket kept last ∙ sym (length-map old.lines (λ (l : Line). (l.client, l.call))))

-- a blocked call is among those that wait
pub blocked_waits : (old seat : QueueShown) (g : SessionView) (client : ℕ) (call : Call) (free : Bool) (left : SessionShown) → HasEntered old seat g client call free left → free ≡ false → 0 < left.session.waited
blocked_waits old seat g client call free left entered is =
    let waited = ap (λ (s : SessionShown). s.session.waited) entered.session_is ∙ ap (λ (b : Bool). count_by is_waiting (old.statuses ++ status_of b ∷ [])) is in
    let one = sum_by-append (λ (s : Status). cond (is_waiting s) 1 0) old.statuses (Waiting ∷ []) in
    omega (arith, waited, one)

-- the pass of the call that has entered
pub pass_is : {H : Type 0} (e : Named) (place : H → ℕ → ℕ) (old given : QueueShown) (q : Queued H) (past before : List Write) (g : SessionView) (client : ℕ) (call : Call) (free : Bool) (t : ℕ) (table : TableId) (p : PassShown)
    → IsKept e place old q → given ≡ given_seat old g client call free past → t ≡ length q.entries
    → ((l : Line) → slice_get given.lines t ≡ Some l → p ≡ record { table = table; pass = new_pass t l.call given.lines; past = before })
    → p ≡ record { table = table; pass = new_pass t call (old.lines ++ line_of client call ∷ []); past = before }
pass_is e place old given q past before g client call free t table p kept is last gets =
    let lines_are : given.lines ≡ old.lines ++ line_of client call ∷ [] = ap (λ (s : QueueShown). s.lines) is in
    let next = next_ticket e place old q t kept last in
    gets (line_of client call) (ap (λ (ls : List Line). slice_get ls t) lines_are ∙ ap (slice_get (old.lines ++ line_of client call ∷ [])) next ∙ get_last old.lines (line_of client call))
    ∙ ap (λ (ls : List Line). record { table = table; pass = new_pass t call ls; past = before }) lines_are

pub pass_for : {H : Type 0} (e : Named) (place : H → ℕ → ℕ) (base : Base) (old seat : QueueShown) (q : Queued H) (g : SessionView) (client : ℕ) (call : Call) (free : Bool) (left : SessionShown) (before : List Write) (t : ℕ) (table : TableId) (p : PassShown)
    → IsKept e place old q → KnowsSession base (queue_view old) g → HasEntered old seat g client call free left → g.client ≡ client → IsReady (library_of e) call → IsLookedUp e g call → table ≡ e.table → t ≡ length q.entries
    → p ≡ record { table = table; pass = new_pass t call (old.lines ++ line_of client call ∷ []); past = before } → IsPassFor e left.session call p
pass_for e place base old seat q g client call free left before t table p kept knows entered own ready up same last is =
    let low = client_there e place base old q g client kept knows own in
    let next = next_ticket e place old q t kept last in
    let long : length (calls_in (old.lines ++ line_of client call ∷ [])) ≡ length old.lines + 1 = length-map (old.lines ++ line_of client call ∷ []) (λ (l : Line). (l.client, l.call)) ∙ length-append old.lines (line_of client call ∷ []) in
    record {
      fresh = new_pass_fresh e table p (old.lines ++ line_of client call ∷ []) t (line_of client call) before same
          (own_more e old.lines client call (subst (AreOwn e) (sym kept.lines_are) kept.own) low ready (λ r source_is. looked_up_next e (calls_in old.lines) old.statuses g call r knows.has_seen (up r source_is)))
          (ap (slice_get (old.lines ++ line_of client call ∷ [])) next ∙ get_last old.lines (line_of client call)) is;
      own = ap (λ (x : PassShown). x.pass.call) is;
      seen = ap (λ (x : PassShown). x.pass.seen) is ∙ take_all (suc t) (calls_in (old.lines ++ line_of client call ∷ [])) (omega (arith, long, next)) ∙ sym (ap (λ (s : SessionShown). s.session.seen) entered.session_is);
    }
