-- The rule at the opening, while sessions are made, and at the end.
use Rattle.std.proofs.Common.{◌≡◌, ℕ, zero, suc, ◌+◌, Bool, true, List, [], ◌∷◌, length, map, set, refl, sym, ap, ◌∙◌, subst, arith, Some, None, slice_get, slice_index, count_by, cond}
use Rattle.vll_counters.proofs.Common.{option_map, fold, slice_get-map, slice_get_within, Splits, opening, set_here, at_longer, Made, end, Status, Gone, is_waiting, is_running, is_gone, Line, Base, Entered, opened, begun, AreWords, AreLaid, entry_at, QueueView, View, Queue, Session, calls_in, pass_in, session_in, news_in, widest, pass_of, Rule, first_queue, first_view, new_session, IsAtEnd}
use mathlib.Core.Option.{some, some-injective, some-ne-none}
use lib.ListN.{get_elem?}
use Rattle.atomic_table.specs.Table as table
use Rattle.atomic_table.specs.Table.{Seen as SeenBy}
use Rattle.vll_core.proofs.Finished.{finished_reached}
use Rattle.vll_counters.proofs.Places.{no_some, at_below, seat_with}
use Rattle.vll_counters.proofs.Passes.{passes_reviewed, passes_pushed}
use Rattle.vll_counters.proofs.Sessions.{sessions_reviewed, sessions_made, seen_all}
use Rattle.vll_counters.proofs.News.{news_reviewed, news_beside}
use Rattle.vll_counters.proofs.States.{status_of}
use Rattle.vll_counters.proofs.Holding.{held, kept}
use Rattle.vll_counters.proofs.Turns.{as_many, turn_closed, calls_shown, replied}

only_first : {P : Type 0} (seat : ℕ) (v : View) → get_elem? (first_view ∷ []) seat ≡ some v → (first_view ≡ v → P) → P
only_first zero v e go = go (some-injective first_view v e)
only_first (suc seat) v e go = absurd (some-ne-none v (sym e))

-- nothing is entered, and no seat but the queue's is there
pub starts : {S : Type 0} (base : Base) (words : List ℕ) → AreLaid base.records words → Rule {S = S} base (opening words [] first_view)
starts base words first = record {
  state = opened [];
  queue = first_queue 0;
  pass_seat = λ n. 0;
  session_seat = λ n. 0;
  at_queue = refl;
  shows = record { reached = begun [] (λ k d low. absurd (omega (arith, low))); lines = refl; statuses = refl; turn = refl };
  words = record { long = first.long; turn = first.turn; values = first.values; pairs = first.pairs };
  hosted = tt;
  passes = record {
    each = λ seat v p at has. only_first seat v at (λ is. no_some p (ap pass_in is ∙ has));
    all = λ t p is. no_some p is;
  };
  sessions = λ seat v g at has. only_first seat v at (λ is. no_some g (ap session_in is ∙ has));
  news = λ seat v calls at has. only_first seat v at (λ is. no_some calls (ap news_in is ∙ has));
}

-- one more client's session is made, before any call
pub makes_session : {S : Type 0} (base : Base) (q : QueueView) → q.lines ≡ [] → Splits (Rule {S = S} base) 0 (Queue q) (Queue (record q { clients = suc q.clients })) (Session (new_session q.clients))
makes_session base q empty t k at =
    let h = held base t q k at in
    let new : QueueView = record q { clients = suc q.clients } in
    let left = Queue new in
    let views = set t.views 0 left in
    let y = new_session q.clients in
    kept base _ new
    (record {
      state = h.state;
      pass_seat = h.pass_seat;
      session_seat = seat_with h.session_seat q.clients (length views);
      shows = record { reached = h.shows.reached; lines = h.shows.lines; statuses = h.shows.statuses; turn = h.shows.turn };
      words = h.words;
      hosted = h.hosted;
      passes = passes_pushed (pass_of base h.state) (pass_of base h.state) h.pass_seat views (Session y) refl (passes_reviewed (pass_of base h.state) (pass_of base h.state) h.pass_seat t.views 0 (Queue q) left at refl h.passes);
      sessions = sessions_made (calls_in q.lines) q.statuses q.clients h.session_seat views (Session y) y refl refl
          (seen_all (calls_in q.lines) q.statuses y (sym (ap calls_in empty)) (λ k t e. absurd (cc e)))
          (sessions_reviewed (calls_in q.lines) q.statuses q.clients h.session_seat t.views 0 (Queue q) left at refl h.sessions);
      news = news_beside (calls_in q.lines) views (Session y) refl (news_reviewed (calls_in q.lines) t.views 0 left refl h.news);
    })
    (at_longer views (Session y ∷ []) 0 left (set_here t.views 0 left (at_below t.views 0 (Queue q) at)))

-- as many statuses pass a test as entries do
counted : (p : Status → Bool) (es : List Entered) → count_by (λ (e : Entered). p e.status) es ≡ count_by p (map status_of es)
counted p es = from es 0
  where
    from : (es : List Entered) (n : ℕ) → fold (λ (a : ℕ) (e : Entered). a + cond (p e.status) 1 0) n es ≡ fold (λ (a : ℕ) (x : Status). a + cond (p x) 1 0) n (map status_of es)
    from [] n = refl
    from (e ∷ es) n = from es (n + cond (p e.status) 1 0)

gone_only : (x : Status) → is_gone x ≡ true → x ≡ Gone
gone_only Gone h = refl
gone_only other h = absurd (cc h)

-- the words at the end
pub closes : {S : Type 0} (base : Base) (q : QueueView) (words : List ℕ) (t : table.State S View) → SeenBy (Rule base) 0 (Queue q) t → t.words ≡ words → q.turn ≡ None
    → count_by is_waiting q.statuses ≡ 0 → count_by is_running q.statuses ≡ 0 → IsAtEnd base q.lines words
closes base q words t seen is closed none_wait none_run =
    let h = held base t q seen.0 seen.1 in
    let s = h.state in
    let many = as_many base q s h.shows in
    let ends = finished_reached (widest base) s h.shows.reached (turn_closed s.turn (sym h.shows.turn ∙ closed))
    (counted is_waiting s.entries ∙ ap (count_by is_waiting) (sym h.shows.statuses) ∙ none_wait)
    (counted is_running s.entries ∙ ap (count_by is_running) (sym h.shows.statuses) ∙ none_run) in
    let are : AreWords base s words = subst (AreWords base s) is h.words in
    let status : (n : ℕ) (l : Line) → slice_get q.lines n ≡ Some l → slice_get q.statuses n ≡ Some Gone = λ n l at.
    let low = slice_get_within q.lines n l at in
    let e = entry_at s.entries n (omega (arith, low, many)) in
    ap (λ (ss : List Status). slice_get ss n) h.shows.statuses ∙ slice_get-map status_of s.entries n ∙ ap (option_map status_of) e.1 ∙ ap Some (gone_only e.0.status (ends.0 n e.0 e.1)) in
    record {
      long = are.long;
      turn = are.turn;
      values = λ r low. are.values r low ∙ (ends.1 r).0 ∙ ap (λ (calls : List Made). slice_index (end base.procs calls base.records) r) (sym (calls_shown base q s h.shows));
      pairs = λ r low. are.pairs r low ∙ (ends.1 r).1;
      replied = λ n l at. replied base q s h.shows n l at (status n l at);
    }
