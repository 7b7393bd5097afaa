-- The step of a session's seat under no lock keeps the rule: it finds a record's value as it is after each ticket that
-- it was given and that claims the record.
use Rattle.std.proofs.Common.{◌≡◌, ◌≢◌, ℕ, suc, ◌+◌, ◌<◌, ◌≤◌, ◌||◌, ◌==◌, Bool, true, false, List, [], ◌∷◌, length, drop, not, refl, sym, ap, ◌∙◌, subst, arith, Some, slice_get, slice_index}
use Rattle.vll_counters.proofs.Common.{list_any, length-map, exact_unsigned_eq, same_Some, slice_get_within, step, keeps, set_else, Claim, value_word_of, Made, before, Status, Gone, is_waiting, is_gone, Base, Opening, Entered, State, made, writes, has_aborted, will_store, unstored, value, IsReached, AreWords, both_true, or_rest, not_yes, at_least, drop_none, made_at, kept_reached, SessionView, QueueView, Session, calls_in, widest, Rule, Shows, HasSeen, pass_of, told, is_claimed_by, WasThere, FindDoes, FindTells}
use mathlib.Core.Option.{some}
use lib.ListN.{get_elem?}
use Rattle.vll_core.proofs.OwnClaims.{IsClaimedAt}
use Rattle.vll_core.proofs.Unstored.{at_first, first_le}
use Rattle.vll_core.proofs.Sound.{not_below}
use Rattle.vll_core.proofs.Kept.{sound_of}
use Rattle.vll_counters.proofs.Passes.{passes_reviewed}
use Rattle.vll_counters.proofs.Sessions.{sessions_told, seen_all}
use Rattle.vll_counters.proofs.News.{news_reviewed}
use Rattle.vll_counters.proofs.States.{status_of}
use Rattle.vll_counters.proofs.Holding.{AllowsOfWords, not_session, same_words}
use Rattle.vll_counters.proofs.Turns.{entry_of_status, calls_shown}

-- ---- a ticket that is gone is below the lowest one that is yet to store a record that it claims

-- a claim of a record stands at a place
claim_there : (r : ℕ) (cs : List Claim) → list_any (λ (c : Claim). c.id == r) cs ≡ true → IsClaimedAt r cs
claim_there r [] h = absurd (cc h)
claim_there r (c ∷ cs) h = by_claim (c.id == r) refl (claim_there r cs) h
  where
    by_claim : (b : Bool) → (c.id == r) ≡ b → (list_any (λ (d : Claim). d.id == r) cs ≡ true → IsClaimedAt r cs) → (b || list_any (λ (d : Claim). d.id == r) cs) ≡ true → IsClaimedAt r (c ∷ cs)
    by_claim true is rest k = record { place = 0; claim = c; at = refl; names = exact_unsigned_eq c.id r is }
    by_claim false is rest k = let x = rest k in record { place = suc x.place; claim = x.claim; at = x.at; names = x.names }

-- it has released the claim, and so made its stores
gone_stored : (o : Opening) (s : State) (t : ℕ) (e : Entered) (r : ℕ) → IsReached o s → slice_get s.entries t ≡ Some e → e.status ≡ Gone → IsClaimedAt r e.call.claims → will_store o.base s r (t, e) ≡ true → ⊥
gone_stored o s t e r reached at gone claimed will =
    let own = (kept_reached o s reached).entries t e at in
    let some_claim = slice_get_within e.call.claims claimed.place claimed.claim claimed.at in
    let all = own.gone (ap is_gone gone) in
    let stored = both_true (e.loads == length e.call.claims) _ (own.released (omega (arith, some_claim, all))) in
    let left = both_true (list_any on_r (drop e.stores (writes e.call))) (not (has_aborted o.base s t e)) will in
    let as_many : e.stores ≡ length (writes e.call) = exact_unsigned_eq e.stores (length (writes e.call)) (or_rest (has_aborted o.base s t e) (e.stores == length (writes e.call)) stored.1 (not_yes (has_aborted o.base s t e) left.1)) in
    let none_left : length (writes e.call) ≤ e.stores = omega (arith, as_many) in
    cc (sym left.0 ∙ ap (list_any on_r) (drop_none e.stores (writes e.call) none_left))
  where
    on_r : Claim → Bool
    on_r c = c.id == r

gone_below : (o : Opening) (s : State) (t : ℕ) (e : Entered) (r : ℕ) → IsReached o s → slice_get s.entries t ≡ Some e → e.status ≡ Gone → list_any (λ (c : Claim). c.id == r) e.call.claims ≡ true → t < unstored o.base s r
gone_below o s t e r reached at gone claims =
    let claimed = claim_there r e.call.claims claims in
    let low = slice_get_within s.entries t e at in
    let u : ℕ = unstored o.base s r in
    let above : t ≤ u = at_least u t (λ below. not_below o.base s t e claimed.claim claimed.place (sound_of o s (kept_reached o s reached)) at (ap is_waiting gone) claimed.at (subst (λ m. unstored o.base s m < t) (sym claimed.names) below)) in
    let apart : u ≡ t → ⊥ = λ same.
    let first = at_first (will_store o.base s r) s.entries 0 (let w : unstored o.base s r < length s.entries = omega (arith, same, low) in w) in
    let twins : first.0 ≡ e = same_Some first.0 e (sym first.1 ∙ (ap (slice_get s.entries) same ∙ at)) in
    gone_stored o s t e r reached at gone claimed
    (ap (λ (d : Entered). will_store o.base s r (t, d)) (sym twins) ∙ (ap (λ m. will_store o.base s r (m, first.0)) (let z : t ≡ 0 + u = omega (arith, same) in z) ∙ first.2)) in
    omega (arith, above, apart)

-- ---- the step

module _ (base : Base) where
  -- the record's value is what it is before the lowest ticket that is yet to store it
  was_there : (q : QueueView) (s : State) (g : SessionView) (r v : ℕ) → Shows base q s → HasSeen (calls_in q.lines) q.statuses g → v ≡ value base s r
      → WasThere base (calls_in q.lines) g.given (length (calls_in q.lines)) r v
  was_there q s g r v shows seen present =
      let calls = calls_shown base q s shows in
      let lowest : unstored base s r ≤ length s.entries = first_le (will_store base s r) s.entries 0 in
      let many : length (calls_in q.lines) ≡ length s.entries = ap length calls ∙ length-map s.entries made in
      record {
        ticket = unstored base s r;
        within = omega (arith, lowest, many);
        value = present ∙ ap (λ (xs : List Made). slice_index (before base.procs xs base.records (unstored base s r)) r) (sym calls);
        behind = λ k t m at there claims.
            let e = entry_of_status s.entries t Gone (ap (λ (ss : List Status). slice_get ss t) (sym shows.statuses) ∙ seen.given k t at) in
            let same : m ≡ made e.0 = same_Some m (made e.0) (sym there ∙ ap (λ (xs : List Made). slice_get xs t) calls ∙ made_at s.entries t e.0 e.1) in
            gone_below (widest base) s t e.0 r shows.reached e.1 e.2 (ap (λ (x : Made). is_claimed_by x.1 r) (sym same) ∙ claims);
      }

  -- each ticket whose reply a session was given is one of an entered call
  given_entered : (q : QueueView) (s : State) (g : SessionView) → Shows base q s → HasSeen (calls_in q.lines) q.statuses g → (k t : ℕ) → slice_get g.given k ≡ Some t → t < length (calls_in q.lines)
  given_entered q s g shows seen k t at =
      let low = slice_get_within q.statuses t Gone (seen.given k t at) in
      let many = ap length shows.statuses ∙ length-map s.entries status_of in
      let calls = ap length (calls_shown base q s shows) ∙ length-map s.entries made in
      omega (arith, low, many, calls)

  pub finds : (slots by : ℕ) (g : SessionView) (r : ℕ) → r < length base.records
      → AllowsOfWords (Rule {S = Unit {0}} base) slots by (Session g, []) (value_word_of r) (λ n. n)
      (λ words n w. FindDoes (step 0 0 0 0 mathlib.Core.Option.none) (Session g, []) n w × FindTells base r words (Session g, []) n w)
  finds slots by g r room t k _ at small =
      let s = k.state in
      let q = k.queue in
      let i : ℕ = value_word_of r in
      let word : ℕ = slice_index t.words i in
      let present : word ≡ value base s r = k.words.values r room in
      let seen : HasSeen (calls_in q.lines) q.statuses g = (k.sessions by (Session g) g at refl).has_seen in
      let y = told (calls_in q.lines) g in
      let apart : 0 ≢ by = λ (z : 0 ≡ by). not_session q g (sym k.at_queue ∙ ap (get_elem? t.views) z ∙ at) in (
        Session y,
        keeps,
        tt,
        record {
          state = s;
          queue = q;
          pass_seat = k.pass_seat;
          session_seat = k.session_seat;
          at_queue = set_else t.views by 0 (Session y) apart ∙ k.at_queue;
          shows = record { reached = k.shows.reached; lines = k.shows.lines; statuses = k.shows.statuses; turn = k.shows.turn };
          words = subst (AreWords base s) (sym (same_words t.words i)) k.words;
          hosted = k.hosted;
          passes = passes_reviewed (pass_of base s) (pass_of base s) k.pass_seat t.views by (Session g) (Session y) at refl k.passes;
          sessions = sessions_told (calls_in q.lines) q.statuses q.clients k.session_seat t.views by (Session g) (Session y) g y at refl refl refl (seen_all (calls_in q.lines) q.statuses y refl seen.given) k.sessions;
          news = news_reviewed (calls_in q.lines) t.views by (Session y) refl k.news;
        },
        (
          refl,
          record {
            now = record { moment = t; rule = k; seat = by; at = at };
            words_are = refl;
            present = present;
            same = refl;
            seen = calls_shown base q s k.shows;
            begins = seen.begins;
            own = seen.own;
            given = given_entered q s g k.shows seen;
            was = was_there q s g r word k.shows seen present;
          },
        ),
      )
