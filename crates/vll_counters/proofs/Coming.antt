-- A pass or a session comes to the queue's seat, a pass that has come ends, and a session that has come leaves.
use Rattle.std.proofs.Common.{◌≡◌, ◌≢◌, ℕ, suc, true, false, List, [], ◌∷◌, ◌++◌, length, take, set, refl, sym, ap, ◌∙◌, subst, arith, Option, Some, None, slice_get, slice_index, slice_set, nat_lt, ⊎_elim}
use Rattle.vll_counters.proofs.Common.{option_map, cases_eq, set-set, same_Some, step, keeps, Allows, Splits, Joins, set_here, set_else, at_longer, Made, apply, Status, Running, Gone, is_running, Line, Base, Entered, entered, with_entry, by_event, moved, AreWords, words_stay, get_set, at_push, TurnView, PassView, SessionView, QueueView, View, Queue, Pass, Session, Spent, calls_in, widest, pass_of, IsHosted, AreSessions, Rule, new_status, told, admitted, turn_ended, leaving, session_left, answered, finished, finished_by, ended, KnowsPass, has_stored_pass, EndTells, MayLeave, IsGivenOut}
use mathlib.Core.Option.{some}
use lib.ListN.{get_elem?}
use Rattle.vll_core.specs.declared.event.Event.TheVariants as event
use Rattle.vll_counters.proofs.Places.{at_below, get_longer, get_set_else, seat_with}
use Rattle.vll_counters.proofs.Passes.{passes_reviewed, passes_come, passes_ended, passes_pushed}
use Rattle.vll_counters.proofs.Sessions.{sessions_reviewed, sessions_kept, sessions_come, sessions_left, seen_all}
use Rattle.vll_counters.proofs.News.{begins_same, news_kept, news_reviewed, news_beside}
use Rattle.vll_counters.proofs.Moves.{finish_made}
use Rattle.vll_counters.proofs.States.{calls_entered, entered_kept, pass_is, passes_named, line_by, line_at, lines_changed, statuses_set, status_at, pass_else, pass_gone}
use Rattle.vll_counters.proofs.Holding.{Holds, held, kept, same_words}
use Rattle.vll_counters.proofs.PassSteps.{records_own, stored_same}
use Rattle.vll_counters.proofs.Turns.{turn_closed, calls_shown}
use Rattle.vll_counters.proofs.Entry.{enters_blocked}

runs_only : (x : Status) → is_running x ≡ true → x ≡ Running
runs_only Running h = refl
runs_only other h = absurd (cc h)

-- a session leaves a queue without an open turn, and knows all its calls
leaving_seen : (given : Option ℕ) (q : QueueView) (g : SessionView) → (leaving given q g).seen ≡ calls_in q.lines
leaving_seen None q g = refl
leaving_seen (Some t) q g = refl

leaving_client : (given : Option ℕ) (q : QueueView) (g : SessionView) → (leaving given q g).client ≡ g.client
leaving_client None q g = refl
leaving_client (Some t) q g = refl

leaving_told : (given : Option ℕ) (q : QueueView) (g : SessionView) (calls : List Made) → leaving given q (told calls g) ≡ leaving given q g
leaving_told None q g calls = refl
leaving_told (Some t) q g calls = refl

leaving_gone : (given : Option ℕ) (q : QueueView) (g : SessionView) → ((k t : ℕ) → slice_get g.given k ≡ Some t → slice_get q.statuses t ≡ Some Gone) → IsGivenOut q.statuses given
    → (k t : ℕ) → slice_get (leaving given q g).given k ≡ Some t → slice_get q.statuses t ≡ Some Gone
leaving_gone None q g was out k t at = was k t at
leaving_gone (Some x) q g was out k t at = ⊎_elim
    (λ (h : slice_get g.given k ≡ Some t). was k t h)
    (λ (h : (k ≡ length g.given) × (t ≡ x)). ap (slice_get q.statuses) h.1 ∙ out x refl)
    (at_push g.given x k t at)

-- the queue without its session
abbrev without : QueueView → QueueView
without q = record q { session = None }

leaves_holds : (base : Base) (q : QueueView) (g : SessionView) (given : Option ℕ) (ws : List ℕ) (views : List View) → get_elem? views 0 ≡ some (Queue q) → q.turn ≡ None → q.session ≡ Some g → IsGivenOut q.statuses given
    → Holds base q ws views → Holds base (without q) ws (set views 0 (Queue (without q)) ++ Session (leaving given q g) ∷ [])
leaves_holds base q g given ws views at closed has out h =
    let left = Queue (without q) in
    let y = leaving given q g in
    let mine = h.sessions 0 (Queue q) g at has in
    record {
      state = h.state;
      pass_seat = h.pass_seat;
      session_seat = seat_with h.session_seat g.client (length (set views 0 left));
      shows = record { reached = h.shows.reached; lines = h.shows.lines; statuses = h.shows.statuses; turn = h.shows.turn };
      words = h.words;
      hosted = subst (λ (x : Option TurnView). IsHosted x None) (sym closed) tt;
      passes = passes_pushed (pass_of base h.state) (pass_of base h.state) h.pass_seat (set views 0 left) (Session y) refl
          (passes_reviewed (pass_of base h.state) (pass_of base h.state) h.pass_seat views 0 (Queue q) left at refl h.passes);
      sessions = sessions_left (calls_in q.lines) q.statuses q.clients h.session_seat views 0 (Queue q) left (Session y) g y at has refl refl (leaving_client given q g)
          (seen_all (calls_in q.lines) q.statuses y (leaving_seen given q g) (leaving_gone given q g mine.has_seen.given out)) h.sessions;
      news = news_beside (calls_in q.lines) (set views 0 left) (Session y) refl (news_reviewed (calls_in q.lines) views 0 left refl h.news);
    }

module _ {S : Type 0} (base : Base) where
  -- the session that has come leaves; if its turn is open its call is blocked, and enters
  pub leaves : (q : QueueView) (g : SessionView) (given : Option ℕ) (x : Option TurnView) → q.turn ≡ x → q.session ≡ Some g → MayLeave x → IsGivenOut q.statuses given
      → Splits (Rule {S = S} base) 0 (Queue q) (Queue (without (turn_ended x q))) (session_left given (turn_ended x q) q.session)
  leaves q g given None closed has may out t k at =
      let views = set t.views 0 (Queue (without q)) in
      let right : Session (leaving given q g) ≡ session_left given q q.session = ap (session_left given q) (sym has) in
      subst (λ (v : View). Rule base (record { words = t.words; homes = t.homes; views = views ++ v ∷ [] })) right
      (kept base _ (without q) (leaves_holds base q g given t.words t.views at closed has out (held base t q k at))
      (at_longer views (Session (leaving given q g) ∷ []) 0 (Queue (without q)) (set_here t.views 0 (Queue (without q)) (at_below t.views 0 (Queue q) at))))
  leaves q g given (Some turn) turn_open has may out t k at =
      let q' = admitted turn q in
      let left = Queue (without q') in
      let between = set t.views 0 (Queue q') in
      let there = set_here t.views 0 (Queue q') (at_below t.views 0 (Queue q) at) in
      let calls = calls_in q'.lines in
      let entered_now = enters_blocked base q turn t.words t.views at turn_open may.asked may.denied (held base t q k at) in
      let last = leaves_holds base q' (told calls g) given t.words between there refl (ap (option_map (told calls)) has)
      (λ m is. get_longer q.statuses (new_status turn ∷ []) m Gone (out m is)) entered_now in
      let right : Session (leaving given q' (told calls g)) ≡ session_left given q' q.session = ap Session (leaving_told given q' g calls) ∙ ap (session_left given q') (sym has) in
      let views : set between 0 left ≡ set t.views 0 left = set-set t.views 0 (Queue q') left in
      subst (λ (p : List View × View). Rule base (record { words = t.words; homes = t.homes; views = p.0 ++ p.1 ∷ [] })) (λ i. (views i, right i))
      (kept base (record { words = t.words; homes = t.homes; views = set between 0 left ++ Session (leaving given q' (told calls g)) ∷ [] }) (without q') last
      (at_longer (set between 0 left) (Session (leaving given q' (told calls g)) ∷ []) 0 left (set_here between 0 left (at_below between 0 (Queue q') there))))

  -- a pass comes
  pub comes_pass : (q : QueueView) (other : ℕ) (p : PassView) → q.pass ≡ None → Joins (Rule {S = S} base) 0 (Queue q) other (Pass p) (Queue (record q { pass = Some p })) Spent
  comes_pass q other p empty t k at apart there =
      let h = held base t q k at in
      let w = Queue (record q { pass = Some p }) in
      let was : get_elem? t.views other ≡ some (Pass p) = sym (set_else t.views 0 other w apart) ∙ there in
      kept base _ (record q { pass = Some p })
      (record {
        state = h.state;
        pass_seat = seat_with h.pass_seat p.ticket 0;
        session_seat = h.session_seat;
        shows = record { reached = h.shows.reached; lines = h.shows.lines; statuses = h.shows.statuses; turn = h.shows.turn };
        words = h.words;
        hosted = h.hosted;
        passes = passes_come (pass_of base h.state) (pass_of base h.state) h.pass_seat t.views 0 other (Queue q) w (Pass p) Spent p at empty refl apart was refl refl (passes_named base h.state) h.passes;
        sessions = sessions_reviewed (calls_in q.lines) q.statuses q.clients h.session_seat (set t.views 0 w) other (Pass p) Spent there refl
            (sessions_reviewed (calls_in q.lines) q.statuses q.clients h.session_seat t.views 0 (Queue q) w at refl h.sessions);
        news = news_reviewed (calls_in q.lines) (set t.views 0 w) other Spent refl (news_reviewed (calls_in q.lines) t.views 0 w refl h.news);
      })
      (set_else (set t.views 0 w) other 0 Spent (λ e. apart (sym e)) ∙ set_here t.views 0 w (at_below t.views 0 (Queue q) at))

  -- a session comes
  pub comes_session : (q : QueueView) (other : ℕ) (g : SessionView) → q.session ≡ None → q.turn ≡ None → Joins (Rule {S = S} base) 0 (Queue q) other (Session g) (Queue (record q { session = Some g })) Spent
  comes_session q other g alone closed t k at apart there =
      let h = held base t q k at in
      let w = Queue (record q { session = Some g }) in
      let was : get_elem? t.views other ≡ some (Session g) = sym (set_else t.views 0 other w apart) ∙ there in
      kept base _ (record q { session = Some g })
      (record {
        state = h.state;
        pass_seat = h.pass_seat;
        session_seat = seat_with h.session_seat g.client 0;
        shows = record { reached = h.shows.reached; lines = h.shows.lines; statuses = h.shows.statuses; turn = h.shows.turn };
        words = h.words;
        hosted = subst (λ (x : Option TurnView). IsHosted x (Some g)) (sym closed) tt;
        passes = passes_reviewed (pass_of base h.state) (pass_of base h.state) h.pass_seat (set t.views 0 w) other (Session g) Spent there refl
            (passes_reviewed (pass_of base h.state) (pass_of base h.state) h.pass_seat t.views 0 (Queue q) w at refl h.passes);
        sessions = sessions_come (calls_in q.lines) q.statuses q.clients h.session_seat t.views 0 other (Queue q) w (Session g) Spent g at alone refl apart was refl refl h.sessions;
        news = news_reviewed (calls_in q.lines) (set t.views 0 w) other Spent refl (news_reviewed (calls_in q.lines) t.views 0 w refl h.news);
      })
      (set_else (set t.views 0 w) other 0 Spent (λ e. apart (sym e)) ∙ set_here t.views 0 w (at_below t.views 0 (Queue q) at))

  -- the pass that has come ends
  pub ends : (slots : ℕ) (q : QueueView) (p : PassView) → q.pass ≡ Some p → q.turn ≡ None → has_stored_pass base p ≡ true → p.releases ≡ length p.call.claims
      → Allows (Rule {S = S} base) slots 0 (Queue q, []) 0 (λ n. n) (EndTells base (step 0 0 0 0 mathlib.Core.Option.none) (Queue q, []))
  ends slots q p has closed all released t k _ at small =
      let h = held base t q k at in
      let s = h.state in
      let n = p.ticket in
      let o = pass_is base s n p (h.passes.each 0 (Queue q) p at has).1 in
      let e = o.entry in
      let f : Entered = record e { status = Gone } in
      let next = with_entry s n f in
      let enough : e.releases ≡ length e.call.claims = ap (λ (x : PassView). x.releases) (sym o.is) ∙ released ∙ ap (λ (x : PassView). length x.call.claims) o.is in
      let none_left : nat_lt e.releases (length e.call.claims) ≡ false = grind (arith, enough) in
      let is_made = finish_made (widest base) s n e (turn_closed s.turn (sym h.shows.turn ∙ closed)) o.running_is (sym (stored_same base s n p o) ∙ all) none_left in
      let line = line_by base (entered s) (n, e) in
      let line_there : slice_get q.lines n ≡ Some line = ap (λ (ls : List Line). slice_get ls n) h.shows.lines ∙ line_at base s n e o.at in
      let status_there : slice_get q.statuses n ≡ Some Running = ap (λ (ss : List Status). slice_get ss n) h.shows.statuses ∙ status_at base s n e f o.at refl ∙ ap Some (runs_only e.status o.runs) in
      let answer : answered base p line ≡ line_by base (entered s) (n, f) =
      (λ i. record {
        client = e.client;
        call = e.call;
        reply = Some (apply base.procs (o.is i).call (records_own base s n p o i)).reply;
      }) in
      let new = finished base p q in
      let w = Queue new in
      let lines_now : new.lines ≡ slice_set q.lines n (line_by base (entered s) (n, f)) =
      ap (λ (x : Option Line). elim x as (λ _. List Line) [ None ↦ q.lines | Some l ↦ slice_set q.lines n (answered base p l) ]) line_there ∙ ap (slice_set q.lines n) answer in
      let calls_same : calls_in new.lines ≡ calls_in q.lines = ap calls_in (lines_now ∙ ap (λ (ls : List Line). slice_set ls n (line_by base (entered s) (n, f))) h.shows.lines ∙ sym (lines_changed base s n e f o.at refl))
      ∙ calls_entered base next ∙ entered_kept base s n e f o.at refl ∙ sym (calls_shown base q s h.shows) in
      let stays : (m : ℕ) → slice_get q.statuses m ≡ Some Gone → slice_get (slice_set q.statuses n Gone) m ≡ Some Gone = λ m gone. ⊎_elim
      (λ (x : m ≡ n). ap (slice_get (slice_set q.statuses n Gone)) x ∙ get_set q.statuses n Running Gone status_there)
      (λ (x : m ≢ n). get_set_else q.statuses n m Gone x ∙ gone)
      (cases_eq m n) in
      let view : w ≡ Queue (ended base q) = ap (λ (x : Option PassView). Queue (finished_by base x q)) (sym has) in (
        Queue (ended base q),
        keeps,
        tt,
        subst (λ (v : View). Rule base (record { words = slice_set t.words 0 (slice_index t.words 0); homes = t.homes; views = slice_set t.views 0 v })) view
            (kept base (record { words = slice_set t.words 0 (slice_index t.words 0); homes = t.homes; views = slice_set t.views 0 w }) new
            (record {
              state = next;
              pass_seat = h.pass_seat;
              session_seat = h.session_seat;
              shows = record {
                reached = moved s (by_event (event.Finish n)) _ next h.shows.reached tt is_made;
                lines = lines_now ∙ ap (λ (ls : List Line). slice_set ls n (line_by base (entered s) (n, f))) h.shows.lines ∙ sym (lines_changed base s n e f o.at refl);
                statuses = ap (λ (ss : List Status). slice_set ss n Gone) h.shows.statuses ∙ sym (statuses_set base s n e f o.at refl);
                turn = h.shows.turn;
              };
              words = subst (AreWords base next) (sym (same_words t.words 0)) (words_stay (widest base) s next (by_event (event.Finish n)) _ t.words h.shows.reached is_made refl refl refl h.words);
              hosted = h.hosted;
              passes = passes_ended (pass_of base s) (pass_of base next) h.pass_seat t.views 0 (Queue q) w p at has refl (pass_gone base s n e f o.at refl refl) (pass_else base s n e f o.at refl) (passes_named base s) h.passes;
              sessions = subst (λ (cs : List Made). AreSessions cs (slice_set q.statuses n Gone) q.clients h.session_seat (set t.views 0 w)) (sym calls_same)
                  (sessions_kept (calls_in q.lines) q.statuses q.clients h.session_seat (set t.views 0 w) (slice_set q.statuses n Gone) stays
                  (sessions_reviewed (calls_in q.lines) q.statuses q.clients h.session_seat t.views 0 (Queue q) w at refl h.sessions));
              news = news_kept (calls_in q.lines) (set t.views 0 w) (calls_in new.lines) (begins_same (calls_in q.lines) (calls_in new.lines) (sym calls_same)) (news_reviewed (calls_in q.lines) t.views 0 w refl h.news);
            })
            (set_here t.views 0 w (at_below t.views 0 (Queue q) at))),
        (
          refl,
          λ x is. subst (KnowsPass q) (same_Some p x (sym has ∙ is)) (record {
            line = line;
            at = line_there;
            call = ap (λ (y : PassView). y.call) (sym o.is);
            runs = status_there;
            seen = ap (λ (y : PassView). y.seen) o.is ∙ ap (take (suc n)) (sym (calls_shown base q s h.shows));
          }),
        ),
      )
