-- The steps of the queue's seat that leave passes and sessions where they are: a turn opens, and requests its claims.
use Rattle.std.proofs.Common.{◌≡◌, ℕ, ◌+◌, ◌<◌, ◌≤◌, ◌%◌, ◌&&◌, Bool, List, [], length, refl, sym, ap, ◌∙◌, subst, arith, Option, Some, None, slice_get, slice_index, slice_set}
use Rattle.vll_counters.proofs.Common.{option_map, step, keeps, Allows, set_here, Claim, delta_of, pair_word_of_record, Call, Line, Base, State, counter, waiting, IsProper, IsReached, hand, moved, AreWords, after_request, request_reached, words_asked, counter_asked, counter_fits, words_stay, TurnView, SessionView, QueueView, Queue, calls_in, widest, turn_view, Moment, Rule, pass_of, asked, requested, turn_of, IsCounterNow, KnowsSession, RequestDoes, RequestTells, OpenTells}
use Rattle.std.proofs.lemmas.List.Sums.{count_by-le-length}
use mathlib.Core.Option.{some}
use lib.ListN.{get_elem?}
use Rattle.vll_counters.specs.Steps.{opened}
use Rattle.vll_counters.proofs.Places.{at_below}
use Rattle.vll_counters.proofs.Passes.{passes_reviewed}
use Rattle.vll_counters.proofs.Sessions.{sessions_reviewed}
use Rattle.vll_counters.proofs.News.{news_reviewed}
use Rattle.vll_counters.proofs.Moves.{opened_turn, hand_made}
use Rattle.vll_counters.proofs.Holding.{AllowsOfWords, Holds, held, kept, same_words}
use Rattle.vll_counters.proofs.Turns.{seen_turn, turn_is, turn_closed, hosted_asked, granted_by, as_many, replied}

-- a sum that fits is not cut
uncut : (x d y : ℕ) → y ≡ x + d → y < 18446744073709551616 → (x + d) % 18446744073709551616 ≡ y
uncut x d y e small = omega arith

-- a turn may open: its call is proper, and there is room for one more
abbrev pub MayOpen : Base → List Line → Option Call → Type 0
MayOpen base lines call = (c : Call) → call ≡ Some c → IsProper base c × (length lines < 65536)

module _ (base : Base) where
  pub requests : (slots : ℕ) (q : QueueView) (turn : TurnView) (c : Claim) → q.turn ≡ Some turn → slice_get turn.call.claims turn.requested ≡ Some c → c.id < length base.records
      → AllowsOfWords (Rule {S = Unit {0}} base) slots 0 (Queue q, []) (pair_word_of_record c.id) (λ n. (n + delta_of c.mode) % 18446744073709551616)
      (λ words n w. RequestDoes c (step 0 0 0 0 mathlib.Core.Option.none) (Queue q, []) n w × RequestTells base c words (Queue q, []) n w)
  requests slots q turn c turn_open next room t k _ at small =
      let h = held base t q k at in
      let s = h.state in
      let i : ℕ = pair_word_of_record c.id in
      let x : ℕ = slice_index t.words i in
      let found = turn_is s.turn turn (sym h.shows.turn ∙ turn_open) in
      let u = found.0 in
      let left : slice_get u.call.claims u.requested ≡ Some c = ap (λ (z : TurnView). slice_get z.call.claims z.requested) found.2 ∙ next in
      let after = after_request s u c in
      let reached = request_reached (widest base) s u c h.shows.reached found.1 left in
      let counted : x ≡ counter s c.id = h.words.pairs c.id room in
      let more : counter after c.id ≡ x + delta_of c.mode = counter_asked s u c found.1 left ∙ ap (λ (n : ℕ). n + delta_of c.mode) (sym counted) in
      let fits = counter_fits (widest base) after c.id reached (omega arith) in
      let word : (x + delta_of c.mode) % 18446744073709551616 ≡ counter s c.id + delta_of c.mode = uncut x (delta_of c.mode) (counter after c.id) more fits ∙ counter_asked s u c found.1 left in
      let new = requested c x q in
      let turn_now : new.turn ≡ turn_view after.turn =
      ap (λ (z : Option TurnView). option_map (asked c x) z) turn_open ∙ ap (λ (z : TurnView). Some (asked c x z)) (sym found.2)
      ∙ ap (λ (b : Bool). let z : TurnView = record (seen_turn u) { requested = u.requested + 1; granted = u.granted && b } in Some z) (granted_by base s c x h.shows.reached counted) in
      let here = set_here t.views 0 (Queue new) (at_below t.views 0 (Queue q) at) in (
        Queue new,
        keeps,
        tt,
        kept base _ new
            (record {
              state = after;
              pass_seat = h.pass_seat;
              session_seat = h.session_seat;
              shows = record { reached = reached; lines = h.shows.lines; statuses = h.shows.statuses; turn = turn_now };
              words = subst (λ (v : ℕ). AreWords base after (slice_set t.words i v)) (sym word) (words_asked (widest base) s u c t.words h.shows.reached found.1 left room h.words);
              hosted = hosted_asked q.turn q.session c x h.hosted;
              passes = passes_reviewed (pass_of base s) (pass_of base s) h.pass_seat t.views 0 (Queue q) (Queue new) at refl h.passes;
              sessions = sessions_reviewed (calls_in q.lines) q.statuses q.clients h.session_seat t.views 0 (Queue q) (Queue new) at refl h.sessions;
              news = news_reviewed (calls_in q.lines) t.views 0 (Queue new) refl h.news;
            })
            here,
        (refl, record { now = record { moment = t; rule = k; at = at }; words_are = refl; counts = k.words.pairs c.id room }),
      )

  -- the word has room for the claim that is requested
  pub request_fits : (q : QueueView) (turn : TurnView) (c : Claim) (words : List ℕ) (n : ℕ) → q.turn ≡ Some turn → slice_get turn.call.claims turn.requested ≡ Some c → c.id < length base.records
      → IsCounterNow base q words c.id n → (n + delta_of c.mode) % 18446744073709551616 ≡ n + delta_of c.mode
  request_fits q turn c words n turn_open next room counts =
      let k = counts.now.rule in
      let h = held base counts.now.moment q k counts.now.at in
      let s = h.state in
      let found = turn_is s.turn turn (sym h.shows.turn ∙ turn_open) in
      let u = found.0 in
      let left : slice_get u.call.claims u.requested ≡ Some c = ap (λ (z : TurnView). slice_get z.call.claims z.requested) found.2 ∙ next in
      let after = after_request s u c in
      let reached = request_reached (widest base) s u c h.shows.reached found.1 left in
      let same : n ≡ counter s c.id = counts.counts ∙ sym (k.words.pairs c.id room) ∙ h.words.pairs c.id room in
      let more : counter after c.id ≡ n + delta_of c.mode = counter_asked s u c found.1 left ∙ ap (λ (m : ℕ). m + delta_of c.mode) (sym same) in
      let fits = counter_fits (widest base) after c.id reached (omega arith) in
      uncut n (delta_of c.mode) (counter after c.id) more fits ∙ more

  -- what the queue's seat learns of a session that has joined it
  knows : (t : Moment) (q : QueueView) → Holds base q t.words t.views → get_elem? t.views 0 ≡ some (Queue q) → (g : SessionView) → q.session ≡ Some g → KnowsSession base q g
  knows t q h at g has = let o = h.sessions 0 (Queue q) g at has in record { client = o.client; has_seen = o.has_seen; replied = replied base q h.state h.shows }

  pub opens : (slots : ℕ) (q : QueueView) (call : Option Call) → q.turn ≡ None → MayOpen base q.lines call
      → Allows (Rule {S = Unit {0}} base) slots 0 (Queue q, []) 0 (λ n. n) (OpenTells base call (step 0 0 0 0 mathlib.Core.Option.none) (Queue q, []))
  opens slots q call closed may t k _ at small =
      let h = held base t q k at in (
        Queue (opened call q),
        keeps,
        tt,
        kept base _ (opened call q) (by_call call q.session refl h may) (set_here t.views 0 (Queue (opened call q)) (at_below t.views 0 (Queue q) at)),
        (refl, knows t q h at),
      )
    where
      -- the queue with this turn
      with_turn : Option TurnView → QueueView
      with_turn x = record q { turn = x }

      written : List ℕ
      written = slice_set t.words 0 (slice_index t.words 0)

      stays : Holds base q t.words t.views → Holds base (with_turn None) written (slice_set t.views 0 (Queue (with_turn None)))
      stays h = record {
        state = h.state;
        pass_seat = h.pass_seat;
        session_seat = h.session_seat;
        shows = record { reached = h.shows.reached; lines = h.shows.lines; statuses = h.shows.statuses; turn = sym closed ∙ h.shows.turn };
        words = subst (AreWords base h.state) (sym (same_words t.words 0)) h.words;
        hosted = tt;
        passes = passes_reviewed (pass_of base h.state) (pass_of base h.state) h.pass_seat t.views 0 (Queue q) (Queue (with_turn None)) at refl h.passes;
        sessions = sessions_reviewed (calls_in q.lines) q.statuses q.clients h.session_seat t.views 0 (Queue q) (Queue (with_turn None)) at refl h.sessions;
        news = news_reviewed (calls_in q.lines) t.views 0 (Queue (with_turn None)) refl h.news;
      }

      enters : (c : Call) (g : SessionView) → q.session ≡ Some g → IsProper base c → length q.lines < 65536 → Holds base q t.words t.views
          → Holds base (with_turn (Some (seen_turn (opened_turn g.client c)))) written (slice_set t.views 0 (Queue (with_turn (Some (seen_turn (opened_turn g.client c))))))
      enters c g has proper room h =
          let s = h.state in
          let many = as_many base q s h.shows in
          let few : waiting s ≤ length s.entries = count_by-le-length _ s.entries in
          let is_made = hand_made (widest base) s g.client c (turn_closed s.turn (sym h.shows.turn ∙ closed)) (omega (arith, many, room)) (omega (arith, few, many, room)) in
          let next : State = record s { turn = Some (opened_turn g.client c) } in
          let reached : IsReached (widest base) next = moved s (hand g.client c) _ next h.shows.reached proper is_made in
          record {
            state = next;
            pass_seat = h.pass_seat;
            session_seat = h.session_seat;
            shows = record { reached = reached; lines = h.shows.lines; statuses = h.shows.statuses; turn = refl };
            words = subst (AreWords base next) (sym (same_words t.words 0)) (words_stay (widest base) s next (hand g.client c) _ t.words h.shows.reached is_made refl refl refl h.words);
            hosted = (g, has, refl);
            passes = passes_reviewed (pass_of base s) (pass_of base s) h.pass_seat t.views 0 (Queue q) (Queue (with_turn (Some (seen_turn (opened_turn g.client c))))) at refl h.passes;
            sessions = sessions_reviewed (calls_in q.lines) q.statuses q.clients h.session_seat t.views 0 (Queue q) (Queue (with_turn (Some (seen_turn (opened_turn g.client c))))) at refl h.sessions;
            news = news_reviewed (calls_in q.lines) t.views 0 (Queue (with_turn (Some (seen_turn (opened_turn g.client c))))) refl h.news;
          }

      by_call : (x : Option Call) (y : Option SessionView) → q.session ≡ y → Holds base q t.words t.views → MayOpen base q.lines x → Holds base (with_turn (turn_of x y)) written (slice_set t.views 0 (Queue (with_turn (turn_of x y))))
      by_call None y is h may = stays h
      by_call (Some c) None is h may = stays h
      by_call (Some c) (Some g) is h may = let m = may c refl in enters c g is m.0 m.1 h
