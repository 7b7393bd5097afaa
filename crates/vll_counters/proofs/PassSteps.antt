-- The steps of a pass's seat keep the rule: loads, stores and releases.
use Rattle.std.proofs.Common.{◌≡◌, ◌≢◌, ℕ, zero, suc, ◌+◌, ◌-◌, ◌<◌, ◌%◌, ◌&&◌, ◌||◌, ◌==◌, Bool, true, false, List, [], ◌∷◌, ◌++◌, length, take, refl, sym, ap, ◌∙◌, subst, arith, Option, Some, Ok, slice_get, slice_index, slice_set, nat_lt, add-one}
use Rattle.vll_counters.proofs.Common.{map-append, slice_get_within, nat_tests, step, keeps, Allows, set_else, Claim, delta_of, pair_word_of_record, value_word_of, Made, apply, before, end, is_running, is_gone, Seen, Base, Entered, State, made, entered, records_before, writes, is_aborted, counter, value, with_entry, has_stored, Move, move, by_event, IsLawful, moved, is_on, entry_store, AreWords, words_stay, counters_stay, counter_fits, delta_here, delta_elsewhere, counter_release, take_next, load_reached, before_more, made_at, ne_eqb, PassView, View, Pass, widest, values_before, pass_for, pass_of, Moment, Rule, loaded, stored, released, records_before_pass, reply_of_pass, PassMoment, IsCountedNow, has_stored_pass, LoadTells, StoreTells, ReleaseDoes, ReleaseTells}
use mathlib.Core.Option.{some}
use lib.ListN.{get_elem?}
use Rattle.atomic_table.specs.Table as table
use Rattle.vll_core.specs.declared.event.Event.TheVariants as event
use Rattle.vll_core.proofs.WordChanges.{words_set_value, words_set_pair}
use Rattle.vll_core.proofs.Values.{store_reached, others_stay}
use Rattle.vll_counters.proofs.Moves.{load_made, store_made, release_made}
use Rattle.vll_counters.proofs.Passes.{passes_moved}
use Rattle.vll_counters.proofs.Sessions.{sessions_reviewed}
use Rattle.vll_counters.proofs.News.{news_reviewed}
use Rattle.vll_counters.proofs.States.{IsPassOf, pass_is, passes_named, entered_kept, statuses_kept, lines_kept, pass_else, pass_here}
use Rattle.vll_counters.proofs.Holding.{AllowsOfWords, not_pass, same_words}

-- the pass of a seat is that of its ticket
pub own_pass : {S : Type 0} (base : Base) (t : table.State S View) (k : Rule base t) (by : ℕ) (p : PassView) → get_elem? t.views by ≡ some (Pass p) → IsPassOf base k.state p.ticket p
own_pass base t k by p at = pass_is base k.state p.ticket p (k.passes.each by (Pass p) p at refl).1

take_fewer : (n : ℕ) (xs : List Made) → take n (take (suc n) xs) ≡ take n xs
take_fewer zero xs = refl
take_fewer (suc n) [] = refl
take_fewer (suc n) (x ∷ xs) = ap (λ (l : List Made). x ∷ l) (take_fewer n xs)

-- the calls up to a ticket serve as all of them
pub before_own : (base : Base) (calls : List Made) (t : ℕ) → before base.procs (take (suc t) calls) base.records t ≡ before base.procs calls base.records t
before_own base calls t = ap (λ (xs : List Made). end base.procs xs base.records) (take_fewer t calls)

-- the records before a pass's ticket are those of the state
pub records_own : (base : Base) (s : State) (t : ℕ) (p : PassView) → IsPassOf base s t p → records_before_pass base p ≡ records_before base s t
records_own base s t p o = ap (records_before_pass base) o.is ∙ before_own base (entered s) t

same_test : (a b c : Bool) → (a && (b || c)) ≡ (a && ((a && b) || c))
same_test true b c = refl
same_test false b c = refl

-- a pass knows whether all its stores are made
pub stored_same : (base : Base) (s : State) (t : ℕ) (p : PassView) → (o : IsPassOf base s t p) → has_stored_pass base p ≡ has_stored base s t o.entry
stored_same base s t p o =
    ap (has_stored_pass base) o.is
    ∙ ap (λ (now : List ℕ). (o.entry.loads == length o.entry.call.claims) && (is_aborted (apply base.procs o.entry.call now).reply || (o.entry.stores == length (writes o.entry.call)))) (before_own base (entered s) t)
    ∙ same_test (o.entry.loads == length o.entry.call.claims) (is_aborted (apply base.procs o.entry.call (records_before base s t)).reply) (o.entry.stores == length (writes o.entry.call))

-- not all stores are made before the last one, unless the call aborts
not_stored : (a b c : Bool) → b ≡ false → c ≡ false → (a && ((a && b) || c)) ≡ false
not_stored true b c e f = rw (e, f) refl
not_stored false b c e f = refl

abbrev pass_now : (base : Base) (t : Moment) (k : Rule base t) (by : ℕ) (p : PassView) → get_elem? t.views by ≡ some (Pass p) → PassMoment base p
pass_now base t k by p at = record { moment = t; rule = k; seat = by; at = at }

module _ (base : Base) where
  -- a step of a pass's seat, by a move that changes the counts of its entry alone
  pass_step : (t : Moment) (k : Rule base t) (by : ℕ) (p q : PassView) (o : IsPassOf base k.state p.ticket p) (f : Entered) (m : Move) (seen : Seen) (words : List ℕ) (homes : List (mathlib.Core.Option.Option (Unit {0})))
      → get_elem? t.views by ≡ some (Pass p) → made f ≡ made o.entry → f.status ≡ o.entry.status → q ≡ pass_for base (entered k.state) p.ticket f
      → IsLawful (widest base) m → move (widest base) k.state m ≡ Ok (seen, with_entry k.state p.ticket f) → AreWords base (with_entry k.state p.ticket f) words
      → Rule base (record { words = words; homes = homes; views = slice_set t.views by (Pass q) })
  pass_step t k by p q o f m seen words homes at same status is lawful made_is are =
      let s = k.state in
      let n = p.ticket in
      let e = o.entry in
      let next = with_entry s n f in
      let runs : is_running f.status ≡ true = ap is_running status ∙ o.runs in
      let apart : 0 ≢ by = λ (z : 0 ≡ by). not_pass k.queue p (sym k.at_queue ∙ ap (get_elem? t.views) z ∙ at) in
      record {
        state = next;
        queue = k.queue;
        pass_seat = k.pass_seat;
        session_seat = k.session_seat;
        at_queue = set_else t.views by 0 (Pass q) apart ∙ k.at_queue;
        shows = record {
          reached = moved s m seen next k.shows.reached lawful made_is;
          lines = k.shows.lines ∙ sym (lines_kept base s n e f o.at same (ap is_gone status));
          statuses = k.shows.statuses ∙ sym (statuses_kept base s n e f o.at same status);
          turn = k.shows.turn;
        };
        words = are;
        hosted = k.hosted;
        passes = passes_moved (pass_of base s) (pass_of base next) k.pass_seat t.views by (Pass p) (Pass q) p q at refl refl (ap (λ (x : PassView). x.ticket) is)
            (pass_here base s n e f o.at same runs ∙ ap Some (sym is)) (pass_else base s n e f o.at same) (passes_named base s) k.passes;
        sessions = sessions_reviewed _ _ _ k.session_seat t.views by (Pass p) (Pass q) at refl k.sessions;
        news = news_reviewed _ t.views by (Pass q) refl k.news;
      }

  pub loads : (slots by : ℕ) (p : PassView) (c : Claim) → slice_get p.call.claims p.loads ≡ Some c → c.id < length base.records
      → Allows (Rule {S = Unit {0}} base) slots by (Pass p, []) (value_word_of c.id) (λ n. n) (LoadTells base c.id (step 0 0 0 0 mathlib.Core.Option.none) (Pass p, []))
  loads slots by p c next room t k _ at small =
      let o = own_pass base t k by p at in
      let s = k.state in
      let n = p.ticket in
      let e = o.entry in
      let i : ℕ = value_word_of c.id in
      let word : ℕ = slice_index t.words i in
      let left : slice_get e.call.claims e.loads ≡ Some c = ap (λ (x : PassView). slice_get x.call.claims x.loads) (sym o.is) ∙ next in
      let f : Entered = record e { loads = e.loads + 1 } in
      let made_is = load_made (widest base) s n e c o.running_is left in
      let present : word ≡ value base s c.id = k.words.values c.id room in
      let serial : word ≡ slice_index (records_before base s n) c.id = present ∙ load_reached (widest base) s _ n _ e c k.shows.reached o.at left made_is in
      let values : values_before base (entered s) n (take (e.loads + 1) e.call.claims) ≡ values_before base (entered s) n (take e.loads e.call.claims) ++ word ∷ [] =
      ap (values_before base (entered s) n) (take_next e.call.claims e.loads c left) ∙ map-append _ (take e.loads e.call.claims) (c ∷ [])
      ∙ ap (λ (v : ℕ). values_before base (entered s) n (take e.loads e.call.claims) ++ v ∷ []) (sym serial) in
      let is : loaded word p ≡ pass_for base (entered s) n f =
      ap (loaded word) o.is ∙ ap (λ (vs : List ℕ). let x : PassView = record (pass_for base (entered s) n f) { loaded = vs } in x) (sym values) in (
        Pass (loaded word p),
        keeps,
        tt,
        pass_step t k by p (loaded word p) o f (by_event (event.Load n)) _ (slice_set t.words i word) t.homes at refl refl is tt made_is
            (subst (AreWords base (with_entry s n f)) (sym (same_words t.words i))
            (words_stay (widest base) s (with_entry s n f) (by_event (event.Load n)) _ t.words k.shows.reached made_is refl refl refl k.words)),
        (refl, record { now = pass_now base t k by p at; present = present; serial = serial ∙ ap (λ (xs : List ℕ). slice_index xs c.id) (sym (records_own base s n p o)) }),
      )

  pub stores : (slots by : ℕ) (p : PassView) (c : Claim) (new : ℕ) → slice_get (writes p.call) p.stores ≡ Some c → c.id < length base.records → p.loads ≡ length p.call.claims
      → is_aborted (reply_of_pass base p) ≡ false → new ≡ slice_index (apply base.procs p.call (records_before_pass base p)).records c.id
      → Allows (Rule {S = Unit {0}} base) slots by (Pass p, []) (value_word_of c.id) (λ _. new) (λ _. StoreTells (step 0 0 0 0 mathlib.Core.Option.none) (Pass p, []) new)
  stores slots by p c new next room all runs right t k _ at small =
      let o = own_pass base t k by p at in
      let s = k.state in
      let n = p.ticket in
      let e = o.entry in
      let i : ℕ = value_word_of c.id in
      let write : slice_get (writes e.call) e.stores ≡ Some c = ap (λ (x : PassView). slice_get (writes x.call) x.stores) (sym o.is) ∙ next in
      let loads_all : e.loads ≡ length e.call.claims = ap (λ (x : PassView). x.loads) (sym o.is) ∙ all ∙ ap (λ (x : PassView). length x.call.claims) o.is in
      let none_left : nat_lt e.loads (length e.call.claims) ≡ false = grind (arith, loads_all) in
      let now = records_own base s n p o in
      let low = slice_get_within (writes e.call) e.stores c write in
      let some_left : (e.stores == length (writes e.call)) ≡ false = grind (arith, nat_tests, low) in
      let alive : is_aborted (apply base.procs e.call (records_before base s n)).reply ≡ false =
      (λ j. is_aborted (apply base.procs (sym o.is j).call (sym now j)).reply) ∙ runs in
      let f : Entered = record e { stores = e.stores + 1 } in
      let after = with_entry s n f in
      let made_is = store_made (widest base) s n e o.running_is none_left
      (not_stored (e.loads == length e.call.claims) (is_aborted (apply base.procs e.call (records_before base s n)).reply) (e.stores == length (writes e.call)) alive some_left) in
      let here : value base after c.id ≡ new =
      store_reached (widest base) s after n e c _ k.shows.reached o.at write made_is
      ∙ ap (λ (calls : List Made). slice_index (before base.procs calls base.records (suc n)) c.id) (entered_kept base s n e f o.at refl)
      ∙ ap (λ m. slice_index (before base.procs (entered s) base.records m) c.id) (sym (add-one n))
      ∙ ap (λ (xs : List ℕ). slice_index xs c.id) (before_more base.procs (entered s) base.records n (made e) (made_at s.entries n e o.at))
      ∙ (λ j. slice_index (apply base.procs (sym o.is j).call (sym now j)).records c.id)
      ∙ sym right in
      let others : (r : ℕ) → r ≢ c.id → value base after r ≡ value base s r = λ r apart.
      others_stay (widest base) s after (by_event (event.Store n)) _ r k.shows.reached made_is
      (ap (λ (x : Option Entered). is_on r (entry_store x)) o.at ∙ ap (is_on r) write ∙ ne_eqb c.id r (λ z. apart (sym z))) in (
        Pass (stored p),
        keeps,
        tt,
        pass_step t k by p (stored p) o f (by_event (event.Store n)) _ (slice_set t.words i new) t.homes at refl refl (ap stored o.is) tt made_is
            (words_set_value base s after t.words c.id new room here others (λ r. counters_stay (widest base) s after (by_event (event.Store n)) _ r made_is refl refl) k.words),
        refl,
      )

  pub releases : (slots by : ℕ) (p : PassView) (c : Claim) → slice_get p.call.claims p.releases ≡ Some c → c.id < length base.records → has_stored_pass base p ≡ true
      → AllowsOfWords (Rule {S = Unit {0}} base) slots by (Pass p, []) (pair_word_of_record c.id) (λ n. (n + (18446744073709551616 - delta_of c.mode)) % 18446744073709551616)
      (λ words n w. ReleaseDoes (step 0 0 0 0 mathlib.Core.Option.none) (Pass p, []) n w × ReleaseTells base c.id words (Pass p, []) n w)
  releases slots by p c next room all t k _ at small =
      let o = own_pass base t k by p at in
      let s = k.state in
      let n = p.ticket in
      let e = o.entry in
      let i : ℕ = pair_word_of_record c.id in
      let word : ℕ = slice_index t.words i in
      let left : slice_get e.call.claims e.releases ≡ Some c = ap (λ (x : PassView). slice_get x.call.claims x.releases) (sym o.is) ∙ next in
      let f : Entered = record e { releases = e.releases + 1 } in
      let after = with_entry s n f in
      let made_is = release_made (widest base) s n e c o.running_is (sym (stored_same base s n p o) ∙ all) left in
      let counted : word ≡ counter s c.id = k.words.pairs c.id room in
      let d : ℕ = delta_of c.mode in
      let less : counter s c.id ≡ counter after c.id + d = counter_release s n e c c.id o.at left ∙ ap (λ m. counter after c.id + m) (delta_here c) in
      let v : ℕ = (word + (18446744073709551616 - d)) % 18446744073709551616 in
      let here : counter after c.id ≡ v = left_after word (counter after c.id) d (counted ∙ less) small in
      let others : (r : ℕ) → r ≢ c.id → counter after r ≡ counter s r = λ r apart. omega (arith, counter_release s n e c r o.at left, delta_elsewhere r c apart) in (
        Pass (released p),
        keeps,
        tt,
        pass_step t k by p (released p) o f (by_event (event.Release n)) _ (slice_set t.words i v) t.homes at refl refl (ap released o.is) tt made_is
            (words_set_pair base s after t.words c.id v room here others (λ r. others_stay (widest base) s after (by_event (event.Release n)) _ r k.shows.reached made_is refl) k.words),
        (refl, record { now = pass_now base t k by p at; words_are = refl; counts = counted }),
      )
    where
      left_after : (x z d : ℕ) → x ≡ z + d → x < 18446744073709551616 → z ≡ (x + (18446744073709551616 - d)) % 18446744073709551616
      left_after x z d e small = omega arith

  -- the word has the claim that is released
  pub release_fits : (p : PassView) (c : Claim) (words : List ℕ) (n : ℕ) → slice_get p.call.claims p.releases ≡ Some c → IsCountedNow base p words c.id n → (n + (18446744073709551616 - delta_of c.mode)) % 18446744073709551616 ≡ n - delta_of c.mode
  release_fits p c words n next counts =
      let k = counts.now.rule in
      let s = k.state in
      let o = own_pass base counts.now.moment k counts.now.seat p counts.now.at in
      let e = o.entry in
      let left : slice_get e.call.claims e.releases ≡ Some c = ap (λ (x : PassView). slice_get x.call.claims x.releases) (sym o.is) ∙ next in
      let after = with_entry s p.ticket (record e { releases = e.releases + 1 }) in
      let less : counter s c.id ≡ counter after c.id + delta_of c.mode = counter_release s p.ticket e c c.id o.at left ∙ ap (λ (m : ℕ). counter after c.id + m) (delta_here c) in
      let fits = counter_fits (widest base) s c.id k.shows.reached (omega arith) in
      taken n (counter s c.id) (counter after c.id) (delta_of c.mode) counts.counts less fits
    where
      taken : (x y z d : ℕ) → x ≡ y → y ≡ z + d → y < 18446744073709551616 → (x + (18446744073709551616 - d)) % 18446744073709551616 ≡ x - d
      taken x y z d same e small = omega arith
