-- The call of the open turn enters: what the queue's seat, the words and the sessions are then.
use Rattle.std.proofs.Common.{◌≡◌, ◌≢◌, ℕ, ◌≤◌, Bool, true, false, List, [], ◌∷◌, ◌++◌, length, set, refl, sym, ap, ◌∙◌, subst, Option, Some, None, ⊎_elim, if◌then◌else◌}
use Rattle.vll_counters.proofs.Common.{option_map, cases_eq, map-append, Made, Running, Waiting, is_running, is_gone, Line, Base, Turn, State, IsReached, by_event, moved, AreWords, words_stay, TurnView, SessionView, QueueView, View, Queue, calls_in, widest, Shows, IsHosted, AreSessions, AreNews, pass_of, new_line, new_status, told, admitted}
use mathlib.Core.Option.{some}
use lib.ListN.{get_elem?}
use Rattle.vll_core.specs.declared.event.Event.TheVariants as event
use Rattle.vll_counters.proofs.Passes.{passes_same, passes_reviewed}
use Rattle.vll_counters.proofs.Sessions.{sessions_entered}
use Rattle.vll_counters.proofs.News.{news_kept, news_reviewed}
use Rattle.vll_counters.proofs.Moves.{entry_of_turn, after_admit, admit_made}
use Rattle.vll_counters.proofs.States.{lines_more, statuses_more, pass_more, pass_waits, pass_past}
use Rattle.vll_counters.proofs.Holding.{Holds}
use Rattle.vll_counters.proofs.Turns.{seen_turn, turn_is}

-- the state of the machine once the turn's call has entered
pub record Enters (base : Base) (q : QueueView) (turn : TurnView) (ws : List ℕ) (s : State) : Type 0 where
  pub open_turn : Turn
  pub opened : s.turn ≡ Some open_turn
  pub shown : seen_turn open_turn ≡ turn
  pub shows : Shows base (admitted turn q) (after_admit s open_turn)
  pub words : AreWords base (after_admit s open_turn) ws

not_gone : (b : Bool) → is_gone (if b then Running else Waiting) ≡ false
not_gone true = refl
not_gone false = refl

pub enters : (base : Base) (q : QueueView) (turn : TurnView) (ws : List ℕ) (s : State) → Shows base q s → AreWords base s ws → q.turn ≡ Some turn → length turn.call.claims ≤ turn.requested → Enters base q turn ws s
enters base q turn ws s shows are turn_open asked =
    let found = turn_is s.turn turn (sym shows.turn ∙ turn_open) in
    let u = found.0 in
    let all : length u.call.claims ≤ u.requested = subst (λ (x : TurnView). length x.call.claims ≤ x.requested) (sym found.2) asked in
    let is_made = admit_made (widest base) s u found.1 all in
    let next = after_admit s u in
    let new = entry_of_turn u in
    let reached : IsReached (widest base) next = moved s (by_event event.Admit) _ next shows.reached tt is_made in
    record {
      open_turn = u;
      opened = found.1;
      shown = found.2;
      shows = record {
        reached = reached;
        lines = (λ i. shows.lines i ++ new_line (sym found.2 i) ∷ []) ∙ sym (lines_more base s None new (not_gone u.granted));
        statuses = (λ i. shows.statuses i ++ new_status (sym found.2 i) ∷ []) ∙ sym (statuses_more base s None new);
        turn = refl;
      };
      words = words_stay (widest base) s next (by_event event.Admit) _ ws shows.reached is_made refl refl refl are;
    }

-- whose turn it is
pub host_of : (turn : TurnView) (x : Option TurnView) (g : Option SessionView) → x ≡ Some turn → IsHosted x g → (h : SessionView) × (g ≡ Some h) × (h.client ≡ turn.client)
host_of turn x g is hosted = subst (λ (z : Option TurnView). IsHosted z g) is hosted

-- the calls in the lines, with one more
calls_more : (q : QueueView) (turn : TurnView) → calls_in (q.lines ++ new_line turn ∷ []) ≡ calls_in q.lines ++ (turn.client, turn.call) ∷ []
calls_more q turn = map-append (λ (l : Line). (l.client, l.call)) q.lines (new_line turn ∷ [])

-- the session at the queue has seen all, and the others are as they were
pub entered_sessions : (q : QueueView) (turn : TurnView) (f : ℕ → ℕ) (views : List View) → get_elem? views 0 ≡ some (Queue q) → q.turn ≡ Some turn → IsHosted q.turn q.session
    → AreSessions (calls_in q.lines) q.statuses q.clients f views → AreSessions (calls_in (admitted turn q).lines) (admitted turn q).statuses q.clients f (set views 0 (Queue (admitted turn q)))
entered_sessions q turn f views at turn_open hosted s =
    let host = host_of turn q.turn q.session turn_open hosted in
    let g = host.0 in
    let calls = calls_in (q.lines ++ new_line turn ∷ []) in
    subst (λ (cs : List Made). AreSessions cs (admitted turn q).statuses q.clients f (set views 0 (Queue (admitted turn q)))) (sym (calls_more q turn))
    (sessions_entered (calls_in q.lines) q.statuses q.clients f views 0 (Queue q) (Queue (admitted turn q)) g (told calls g) (turn.client, turn.call) (new_status turn) at host.1 host.2
    (ap (option_map (told calls)) host.1) refl (calls_more q turn) refl s)

-- news is of a beginning of these calls too
pub entered_news : (q : QueueView) (turn : TurnView) (views : List View) → AreNews (calls_in q.lines) views → AreNews (calls_in (admitted turn q).lines) (set views 0 (Queue (admitted turn q)))
entered_news q turn views s =
    let new = Queue (admitted turn q) in
    news_kept (calls_in q.lines) (set views 0 new) (calls_in (admitted turn q).lines) ((turn.client, turn.call) ∷ [], calls_more q turn) (news_reviewed (calls_in q.lines) views 0 new refl s)

-- a call that is blocked enters, and no pass changes
pub enters_blocked : (base : Base) (q : QueueView) (turn : TurnView) (ws : List ℕ) (views : List View) → get_elem? views 0 ≡ some (Queue q) → q.turn ≡ Some turn → length turn.call.claims ≤ turn.requested → turn.granted ≡ false
    → Holds base q ws views → Holds base (admitted turn q) ws (set views 0 (Queue (admitted turn q)))
enters_blocked base q turn ws views at turn_open asked denied h =
    let s = h.state in
    let e = enters base q turn ws s h.shows h.words turn_open asked in
    let new = entry_of_turn e.open_turn in
    let waits : is_running new.status ≡ false = ap (λ (b : Bool). is_running (if b then Running else Waiting)) (ap (λ (x : TurnView). x.granted) e.shown ∙ denied) in
    let next = after_admit s e.open_turn in
    let same : (t : ℕ) → pass_of base next t ≡ pass_of base s t = λ t. ⊎_elim
    (λ (x : t ≡ length s.entries). ap (pass_of base next) x ∙ pass_waits base s None new waits ∙ sym (pass_past base s) ∙ ap (pass_of base s) (sym x))
    (λ (x : t ≢ length s.entries). pass_more base s None new t x)
    (cases_eq t (length s.entries)) in
    record {
      state = next;
      pass_seat = h.pass_seat;
      session_seat = h.session_seat;
      shows = e.shows;
      words = e.words;
      hosted = tt;
      passes = passes_same (pass_of base s) (pass_of base next) h.pass_seat (set views 0 (Queue (admitted turn q))) same
          (passes_reviewed (pass_of base s) (pass_of base s) h.pass_seat views 0 (Queue q) (Queue (admitted turn q)) at refl h.passes);
      sessions = entered_sessions q turn h.session_seat views at turn_open h.hosted h.sessions;
      news = entered_news q turn views h.news;
    }
