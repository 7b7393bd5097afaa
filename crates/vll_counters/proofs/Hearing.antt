-- The steps of news keep the rule: a session makes news of what it has seen, the news joins another session, and that
-- one hears it.
use Rattle.std.proofs.Common.{◌≡◌, ◌≢◌, ℕ, List, [], ◌∷◌, set, refl, sym, ap, ◌∙◌, subst}
use Rattle.vll_counters.proofs.Common.{same_Some, TableId, Me, step, keeps, Allows, Splits, Joins, set_else, at_longer, Made, Base, AreWords, QueueView, SessionView, SeatView, Queue, Session, News, Hearing, Spent, Begins, calls_in, HasSeen, Rule, pass_of, told, Write, longer, seat_view, with_view, with_views, spent_seat, Stays, RuleWithHistory, NewsShown, calls_of_view, as_it_is, news_told, with_news, HearTells}
use mathlib.Core.Option.{some, some-injective}
use lib.ListN.{get_elem?}
use Rattle.vll_counters.proofs.Passes.{passes_reviewed, passes_pushed}
use Rattle.vll_counters.proofs.Sessions.{sessions_reviewed, sessions_pushed, sessions_told, seen_all}
use Rattle.vll_counters.proofs.News.{news_set, news_pushed, news_reviewed}
use Rattle.vll_counters.proofs.Holding.{same_words, not_session}
use Rattle.vll_counters.proofs.Lifting.{lifts_load, lifts_split, lifts_join}

not_hearing : {P : Type 0} (q : QueueView) (g : SessionView) (calls : List Made) → some (Queue q) ≡ some (Hearing g calls) → P
not_hearing q g calls e = let h : Queue q ≡ Hearing g calls = some-injective _ _ e in absurd (cc h)

not_news : {P : Type 0} (q : QueueView) (calls : List Made) → some (Queue q) ≡ some (News calls) → P
not_news q calls e = let h : Queue q ≡ News calls = some-injective _ _ e in absurd (cc h)

module _ {S : Type 0} (base : Base) where
  -- a session tells what it has seen
  pub tells : (by : ℕ) (g : SessionView) → Splits (Rule {S = S} base) by (Session g) (Session g) (News g.seen)
  tells by g t k at =
      let q = k.queue in
      let views = set t.views by (Session g) in
      let apart : 0 ≢ by = λ (z : 0 ≡ by). not_session q g (sym k.at_queue ∙ ap (get_elem? t.views) z ∙ at) in
      let seen : HasSeen (calls_in q.lines) q.statuses g = (k.sessions by (Session g) g at refl).has_seen in
      record {
        state = k.state;
        queue = q;
        pass_seat = k.pass_seat;
        session_seat = k.session_seat;
        at_queue = at_longer views (News g.seen ∷ []) 0 (Queue q) (set_else t.views by 0 (Session g) apart ∙ k.at_queue);
        shows = k.shows;
        words = k.words;
        hosted = k.hosted;
        passes = passes_pushed (pass_of base k.state) (pass_of base k.state) k.pass_seat views (News g.seen) refl
            (passes_reviewed (pass_of base k.state) (pass_of base k.state) k.pass_seat t.views by (Session g) (Session g) at refl k.passes);
        sessions = sessions_pushed (calls_in q.lines) q.statuses q.clients k.session_seat views (News g.seen) refl
            (sessions_reviewed (calls_in q.lines) q.statuses q.clients k.session_seat t.views by (Session g) (Session g) at refl k.sessions);
        news = news_pushed (calls_in q.lines) views (News g.seen) (λ heard is. subst (λ (l : List Made). Begins l (calls_in q.lines)) (same_Some g.seen heard is) seen.begins)
            (news_reviewed (calls_in q.lines) t.views by (Session g) refl k.news);
      }

  -- news comes to a session
  pub news_comes : (by other : ℕ) (g : SessionView) (calls : List Made) → Joins (Rule {S = S} base) by (Session g) other (News calls) (Hearing g calls) Spent
  news_comes by other g calls t k at apart there =
      let q = k.queue in
      let w = Hearing g calls in
      let between = set t.views by w in
      let was : get_elem? t.views other ≡ some (News calls) = sym (set_else t.views by other w apart) ∙ there in
      let off : 0 ≢ by = λ (z : 0 ≡ by). not_session q g (sym k.at_queue ∙ ap (get_elem? t.views) z ∙ at) in
      let away : 0 ≢ other = λ (z : 0 ≡ other). not_news q calls (sym k.at_queue ∙ ap (get_elem? t.views) z ∙ was) in
      let right : Begins calls (calls_in q.lines) = k.news other (News calls) calls was refl in
      record {
        state = k.state;
        queue = q;
        pass_seat = k.pass_seat;
        session_seat = k.session_seat;
        at_queue = set_else between other 0 Spent away ∙ (set_else t.views by 0 w off ∙ k.at_queue);
        shows = k.shows;
        words = k.words;
        hosted = k.hosted;
        passes = passes_reviewed (pass_of base k.state) (pass_of base k.state) k.pass_seat between other (News calls) Spent there refl
            (passes_reviewed (pass_of base k.state) (pass_of base k.state) k.pass_seat t.views by (Session g) w at refl k.passes);
        sessions = sessions_reviewed (calls_in q.lines) q.statuses q.clients k.session_seat between other (News calls) Spent there refl
            (sessions_reviewed (calls_in q.lines) q.statuses q.clients k.session_seat t.views by (Session g) w at refl k.sessions);
        news = news_reviewed (calls_in q.lines) between other Spent refl
            (news_set (calls_in q.lines) t.views by w (λ heard is. subst (λ (l : List Made). Begins l (calls_in q.lines)) (same_Some calls heard is) right) k.news);
      }

module _ (base : Base) where
  -- a session hears the news that has joined it: it has then seen all entered calls
  pub hears : (slots by : ℕ) (g : SessionView) (calls : List Made)
      → Allows (Rule {S = Unit {0}} base) slots by (Hearing g calls, []) 0 (λ n. n) (HearTells (step 0 0 0 0 mathlib.Core.Option.none) (Hearing g calls, []))
  hears slots by g calls t k _ at small =
      let s = k.state in
      let q = k.queue in
      let seen : HasSeen (calls_in q.lines) q.statuses g = (k.sessions by (Hearing g calls) g at refl).has_seen in
      let y = told (calls_in q.lines) g in
      let apart : 0 ≢ by = λ (z : 0 ≡ by). not_hearing q g calls (sym k.at_queue ∙ ap (get_elem? t.views) z ∙ at) in (
        Session y,
        keeps,
        tt,
        record {
          state = s;
          queue = q;
          pass_seat = k.pass_seat;
          session_seat = k.session_seat;
          at_queue = set_else t.views by 0 (Session y) apart ∙ k.at_queue;
          shows = record { reached = k.shows.reached; lines = k.shows.lines; statuses = k.shows.statuses; turn = k.shows.turn };
          words = subst (AreWords base s) (sym (same_words t.words 0)) k.words;
          hosted = k.hosted;
          passes = passes_reviewed (pass_of base s) (pass_of base s) k.pass_seat t.views by (Hearing g calls) (Session y) at refl k.passes;
          sessions = sessions_told (calls_in q.lines) q.statuses q.clients k.session_seat t.views by (Hearing g calls) (Session y) g y at refl refl refl (seen_all (calls_in q.lines) q.statuses y refl seen.given) k.sessions;
          news = news_reviewed (calls_in q.lines) t.views by (Session y) refl k.news;
        },
        (y, (refl, record { same = refl; heard = k.news by (Hearing g calls) calls at refl; begins = seen.begins; own = seen.own })),
      )

-- ---- the steps of news, if the seats and their views are known by equations

pub news_me : {S : Type 0} (me : Me S SeatView) (z : TableId) (s : NewsShown) → me ≡ (seat_view (News (calls_of_view me.0.view)) me.0.past, []) → record { table = z; calls = calls_of_view me.0.view; past = me.0.past } ≡ s → me ≡ (seat_view (News s.calls) s.past, [])
news_me me z s is shown = is ∙ ap (λ (x : NewsShown). (seat_view (News x.calls) x.past, [])) shown

pub joined_news : {S : Type 0} (me other : Me S SeatView) (g : SessionView) (past others : List Write) (calls : List Made) → me ≡ (seat_view (Session g) past, []) → other ≡ (seat_view (News calls) others, [])
    → ◌≡◌ {A = Me S SeatView} (with_views with_news me.0 other.0, me.1) (seat_view (Hearing g calls) (longer past others), [])
joined_news me other g past others calls is has = λ i. (with_views with_news (is i).0 (has i).0, (is i).1)

pub tells_at : {S : Type 0} (base b : Base) (id : ℕ) (v : SeatView) (g : SessionView) (past : List Write) → base ≡ b → v ≡ seat_view (Session g) past → Splits (RuleWithHistory {S = S} base) id v (with_view as_it_is v) (with_view news_told v)
tells_at base b id v g past same is = rw (same, is) (lifts_split b id (Session g) (Session g) (News g.seen) past (tells b id g))

pub news_comes_at : {S : Type 0} (base b : Base) (id other : ℕ) (v u : SeatView) (g : SessionView) (past others : List Write) (calls : List Made) → base ≡ b → v ≡ seat_view (Session g) past → u ≡ seat_view (News calls) others
    → Joins (RuleWithHistory {S = S} base) id v other u (with_views with_news v u) spent_seat
news_comes_at base b id other v u g past others calls same is has = rw (same, is, has) (lifts_join b id (Session g) past other (News calls) others (Hearing g calls) Spent (news_comes b id other g calls))

pub hears_at : (base b : Base) (slots id : ℕ) (me : Me (Unit {0}) SeatView) (g : SessionView) (past : List Write) (calls : List Made) → base ≡ b → me ≡ (seat_view (Hearing g calls) past, [])
    → Allows (RuleWithHistory {S = Unit {0}} base) slots id me 0 (λ n. n) (Stays HearTells (step 0 0 0 0 mathlib.Core.Option.none) me)
hears_at base b slots id me g past calls same is =
    rw (same, is) (lifts_load b slots id (Hearing g calls) [] past 0 (HearTells (step 0 0 0 0 mathlib.Core.Option.none) (Hearing g calls, [])) (hears b slots id g calls))
