-- The queue's seat gives a pass: to a call that waits, or to the call of the open turn.
use Rattle.std.proofs.Common.{◌≡◌, ℕ, suc, ◌≤◌, Bool, true, List, [], ◌∷◌, length, take, set, refl, sym, ap, ◌∙◌, subst, Option, Some, None, slice_get, slice_set, if◌then◌else◌}
use Rattle.vll_counters.proofs.Common.{option_map, slice_get-map, Splits, set_here, at_longer, conflict, Call, Made, Status, Running, Waiting, Gone, is_waiting, is_running, is_gone, Line, Base, Entered, State, entered, is_clear, with_entry, wake, moved, words_stay, kept_reached, TurnView, QueueView, View, Queue, Pass, Spent, calls_in, widest, values_before, pass_for, pass_of, Shows, Rule, new_line, admitted, new_pass, pass_given, pass_at, MayStart, MayRun}
use Rattle.vll_core.proofs.Picked.{clear_picked}
use Rattle.vll_counters.proofs.Places.{at_below, get_last, get_set_else, seat_with}
use Rattle.vll_counters.proofs.Passes.{passes_reviewed, passes_given}
use Rattle.vll_counters.proofs.Sessions.{sessions_reviewed, sessions_pushed, sessions_kept}
use Rattle.vll_counters.proofs.News.{news_reviewed, news_beside}
use Rattle.vll_counters.proofs.Moves.{entry_of_turn, after_admit, wake_made}
use Rattle.vll_counters.proofs.States.{status_of, line_by, line_at, lines_kept, statuses_set, pass_else, pass_here, pass_none, pass_more, pass_last, pass_past}
use Rattle.vll_counters.proofs.Fresh.{IsFresh, fresh_reached}
use Rattle.vll_counters.proofs.Holding.{held, kept}
use Rattle.vll_counters.proofs.Turns.{as_many, entry_of_status, line_is, calls_shown}
use Rattle.vll_counters.proofs.Entry.{enters, entered_sessions, entered_news}

-- a ticket that may start is clear
starts_clear : (base : Base) (q : QueueView) (s : State) (t : ℕ) (w : MayStart q.lines q.statuses t) (e : Entered) → Shows base q s → slice_get s.entries t ≡ Some e → e.status ≡ Waiting → is_clear s t e.call.claims ≡ true
starts_clear base q s t w e shows at status =
    clear_picked (widest base) s t (kept_reached (widest base) s shows.reached) (record {
      entry = e;
      at = at;
      waits = ap is_waiting status;
      apart = λ v d low there left.
          ap (λ (l : Line). conflict d.call.claims l.call.claims) (sym (line_is base q s t w.line e shows w.at at))
          ∙ w.first v (line_by base (entered s) (v, d)) d.status low
          (ap (λ (ls : List Line). slice_get ls v) shows.lines ∙ line_at base s v d there)
          (ap (λ (ss : List Status). slice_get ss v) shows.statuses ∙ slice_get-map status_of s.entries v ∙ ap (option_map status_of) there)
          left;
    })

-- a new pass is that of an entry that has made no step
fresh_pass : (base : Base) (calls seen : List Made) (t : ℕ) (call : Call) (e : Entered) → IsFresh e → seen ≡ take (suc t) calls → call ≡ e.call
    → record { ticket = t; call = call; seen = seen; loads = 0; stores = 0; releases = 0; loaded = [] } ≡ pass_for base calls t e
fresh_pass base calls seen t call e fresh is same = λ i. record {
  ticket = t;
  call = same i;
  seen = is i;
  loads = sym fresh.loads i;
  stores = sym fresh.stores i;
  releases = sym fresh.releases i;
  loaded = values_before base calls t (take (sym fresh.loads i) e.call.claims);
}

-- the pass of a ticket that has a line
pub pass_there : (n : ℕ) (lines : List Line) (l : Line) → slice_get lines n ≡ Some l → pass_at n lines ≡ Pass (new_pass n l.call lines)
pass_there n lines l at = ap (λ (x : Option Line). elim x as (λ _. View) [ None ↦ Spent | Some m ↦ Pass (new_pass n m.call lines) ]) at

module _ {S : Type 0} (base : Base) where
  gives_waiting : (q : QueueView) (n : ℕ) (w : MayStart q.lines q.statuses n)
      → Splits (Rule {S = S} base) 0 (Queue q) (Queue (record q { statuses = slice_set q.statuses n Running })) (Pass (new_pass n w.line.call q.lines))
  gives_waiting q n w t k at =
      let h = held base t q k at in
      let s = h.state in
      let found = entry_of_status s.entries n Waiting (ap (λ (ss : List Status). slice_get ss n) (sym h.shows.statuses) ∙ w.waits) in
      let e = found.0 in
      let there = found.1 in
      let call : w.line.call ≡ e.call = ap (λ (l : Line). l.call) (line_is base q s n w.line e h.shows w.at there) in
      let f : Entered = record e { status = Running } in
      let next = with_entry s n f in
      let is_made = wake_made (widest base) s n e there (ap is_waiting found.2) (starts_clear base q s n w e h.shows there found.2) in
      let new : QueueView = record q { statuses = slice_set q.statuses n Running } in
      let left = Queue new in
      let views = set t.views 0 left in
      let p = new_pass n w.line.call q.lines in
      let fresh = fresh_reached (widest base) s h.shows.reached n e there (ap is_waiting found.2) in
      let is_p : p ≡ pass_for base (entered s) n f = fresh_pass base (entered s) (take (suc n) (calls_in q.lines)) n w.line.call f
      (record { loads = fresh.loads; stores = fresh.stores; releases = fresh.releases }) (ap (take (suc n)) (calls_shown base q s h.shows)) call in
      let stays : (m : ℕ) → slice_get q.statuses m ≡ Some Gone → slice_get (slice_set q.statuses n Running) m ≡ Some Gone = λ m gone.
      get_set_else q.statuses n m Running (λ z. waits_not_gone (sym w.waits ∙ ap (slice_get q.statuses) (sym z) ∙ gone)) ∙ gone in
      kept base _ new
      (record {
        state = next;
        pass_seat = seat_with h.pass_seat n (length views);
        session_seat = h.session_seat;
        shows = record {
          reached = moved s (wake n) _ next h.shows.reached tt is_made;
          lines = h.shows.lines ∙ sym (lines_kept base s n e f there refl (sym (ap is_gone found.2)));
          statuses = ap (λ (ss : List Status). slice_set ss n Running) h.shows.statuses ∙ sym (statuses_set base s n e f there refl);
          turn = h.shows.turn;
        };
        words = words_stay (widest base) s next (wake n) _ t.words h.shows.reached is_made refl refl refl h.words;
        hosted = h.hosted;
        passes = passes_given (pass_of base s) (pass_of base next) h.pass_seat views n p (Pass p) refl refl (pass_here base s n e f there refl refl ∙ ap Some (sym is_p))
            (pass_none base s n e there (ap is_running found.2)) (pass_else base s n e f there refl) (passes_reviewed (pass_of base s) (pass_of base s) h.pass_seat t.views 0 (Queue q) left at refl h.passes);
        sessions = sessions_pushed (calls_in q.lines) (slice_set q.statuses n Running) q.clients h.session_seat views (Pass p) refl
            (sessions_kept (calls_in q.lines) q.statuses q.clients h.session_seat views (slice_set q.statuses n Running) stays
            (sessions_reviewed (calls_in q.lines) q.statuses q.clients h.session_seat t.views 0 (Queue q) left at refl h.sessions));
        news = news_beside (calls_in q.lines) views (Pass p) refl (news_reviewed (calls_in q.lines) t.views 0 left refl h.news);
      })
      (at_longer views (Pass p ∷ []) 0 left (set_here t.views 0 left (at_below t.views 0 (Queue q) at)))
    where
      waits_not_gone : Some Waiting ≡ Some Gone → ⊥
      waits_not_gone z = cc z

  gives_new : (q : QueueView) (turn : TurnView) → q.turn ≡ Some turn → length turn.call.claims ≤ turn.requested → turn.granted ≡ true
      → Splits (Rule {S = S} base) 0 (Queue q) (Queue (admitted turn q)) (Pass (new_pass (length q.lines) turn.call (admitted turn q).lines))
  gives_new q turn turn_open asked granted t k at =
      let h = held base t q k at in
      let s = h.state in
      let x = enters base q turn t.words s h.shows h.words turn_open asked in
      let u = x.open_turn in
      let new = entry_of_turn u in
      let next = after_admit s u in
      let n : ℕ = length q.lines in
      let many : n ≡ length s.entries = as_many base q s h.shows in
      let runs : is_running new.status ≡ true = ap (λ (b : Bool). is_running (if b then Running else Waiting)) (ap (λ (z : TurnView). z.granted) x.shown ∙ granted) in
      let left = Queue (admitted turn q) in
      let views = set t.views 0 left in
      let p = new_pass n turn.call (admitted turn q).lines in
      let is_p : p ≡ pass_for base (entered next) n new = fresh_pass base (entered next) (take (suc n) (calls_in (admitted turn q).lines)) n turn.call new (record { loads = refl; stores = refl; releases = refl })
      (ap (take (suc n)) (calls_shown base (admitted turn q) next x.shows)) (ap (λ (z : TurnView). z.call) (sym x.shown)) in
      let here : pass_of base next n ≡ Some p = ap (pass_of base next) many ∙ pass_last base s None new runs ∙ ap (λ m. Some (pass_for base (entered next) m new)) (sym many) ∙ ap Some (sym is_p) in
      kept base _ (admitted turn q)
      (record {
        state = next;
        pass_seat = seat_with h.pass_seat n (length views);
        session_seat = h.session_seat;
        shows = x.shows;
        words = x.words;
        hosted = tt;
        passes = passes_given (pass_of base s) (pass_of base next) h.pass_seat views n p (Pass p) refl refl here (ap (pass_of base s) many ∙ pass_past base s)
            (λ m apart. pass_more base s None new m (λ e. apart (e ∙ sym many))) (passes_reviewed (pass_of base s) (pass_of base s) h.pass_seat t.views 0 (Queue q) left at refl h.passes);
        sessions = sessions_pushed (calls_in (admitted turn q).lines) (admitted turn q).statuses q.clients h.session_seat views (Pass p) refl
            (entered_sessions q turn h.session_seat t.views at turn_open h.hosted h.sessions);
        news = news_beside (calls_in (admitted turn q).lines) views (Pass p) refl (entered_news q turn t.views h.news);
      })
      (at_longer views (Pass p ∷ []) 0 left (set_here t.views 0 left (at_below t.views 0 (Queue q) at)))

  pub gives : (q : QueueView) (n : ℕ) (x : Option TurnView) → q.turn ≡ x → MayRun q.lines q.statuses x n → Splits (Rule {S = S} base) 0 (Queue q) (Queue (pass_given n x q)) (pass_at n (pass_given n x q).lines)
  gives q n None closed w =
      subst (λ (v : View). Splits (Rule {S = S} base) 0 (Queue q) (Queue (record q { statuses = slice_set q.statuses n Running })) v) (sym (pass_there n q.lines w.line w.at)) (gives_waiting q n w)
  gives q n (Some turn) turn_open w =
      let last : slice_get (admitted turn q).lines n ≡ Some (new_line turn) = ap (slice_get (admitted turn q).lines) w.next ∙ get_last q.lines (new_line turn) in
      subst (λ (v : View). Splits (Rule {S = S} base) 0 (Queue q) (Queue (admitted turn q)) v)
      (ap (λ m. Pass (new_pass m turn.call (admitted turn q).lines)) (sym w.next) ∙ sym (pass_there n (admitted turn q).lines (new_line turn) last))
      (gives_new q turn turn_open w.asked w.granted)
