-- A step that keeps the rule keeps the rule with the history: how the past of its seat and the history go on.
use Rattle.std.proofs.Common.{◌≡◌, ℕ, List, [], ◌∷◌, ◌++◌, map, set, refl, sym, ap, ◌∙◌, subst, ⊎_elim, slice_index, slice_set}
use Rattle.vll_counters.proofs.Common.{map-set, map-append, Me, carried_after, Allows, Splits, Joins, Final, at_set, set_else, at_snoc, at_map, Base, SeatView, View, laid_words, Rule, Write, written, IsPastOf, longer, IsOfItsStep, IsOfItsLoad, plain, seat_view, without_pasts, RuleWithHistory}
use mathlib.Core.Option.{some}
use lib.ListN.{get_elem?}
use Rattle.atomic_table.specs.Table as table
use Rattle.atomic_table.specs.Table.{Seen as SeenBy}
use Rattle.vll_counters.proofs.Holding.{AllowsOfWords, same_words}
use Rattle.vll_counters.proofs.Pasts.{written-append, past_itself, past_longer, longer_past}

abbrev view_of : SeatView → View
view_of k = k.view

-- a past of each view stays a past if one view is replaced
pasts_set : (views : List SeatView) (id : ℕ) (x : SeatView) (all : List Write) → IsPastOf x.past all → ((seat : ℕ) (k : SeatView) → get_elem? views seat ≡ some k → IsPastOf k.past all)
    → (seat : ℕ) (k : SeatView) → get_elem? (set views id x) seat ≡ some k → IsPastOf k.past all
pasts_set views id x all new old seat k at = ⊎_elim (λ t. subst (λ (y : SeatView). IsPastOf y.past all) t.1 new) (λ t. old seat k t.1) (at_set views id seat x k at)

pasts_snoc : (views : List SeatView) (x : SeatView) (all : List Write) → IsPastOf x.past all → ((seat : ℕ) (k : SeatView) → get_elem? views seat ≡ some k → IsPastOf k.past all)
    → (seat : ℕ) (k : SeatView) → get_elem? (views ++ x ∷ []) seat ≡ some k → IsPastOf k.past all
pasts_snoc views x all new old seat k at = ⊎_elim (λ t. old seat k t) (λ t. subst (λ (y : SeatView). IsPastOf y.past all) t new) (at_snoc views x k seat at)

module _ {S : Type 0} (base : Base) where
  -- what steps tell, with their pasts
  abbrev pub staying : List Write → (ℕ → Me S View → Type 0) → ℕ → Me S SeatView → Type 0
  staying past then n w = then n (plain w) × (w.0.past ≡ past)

  abbrev pub pinning : List Write → ℕ → (ℕ → ℕ) → (ℕ → Me S View → Type 0) → (List ℕ → ℕ → Me S View → Type 0) → ℕ → Me S SeatView → Type 0
  pinning past i f does tells n w = does n (plain w) × IsOfItsStep (laid_words base.records) (λ words. tells words n (plain w)) past w.0.past i n (f n)

  abbrev pub finding : List Write → ℕ → (ℕ → Me S View → Type 0) → (List ℕ → ℕ → Me S View → Type 0) → ℕ → Me S SeatView → Type 0
  finding past i does tells n w = does n (plain w) × IsOfItsLoad (laid_words base.records) (λ words. tells words n (plain w)) past w.0.past i n

  -- a step whose writes are `more`, and whose seat then has the past `new`
  pub lifts : (slots id : ℕ) (v : View) (carried : List (ℕ × S)) (past : List Write) (i : ℕ) (f : ℕ → ℕ) (more : ℕ → List Write) (new : List Write → ℕ → List Write)
      (then : List ℕ → ℕ → Me S View → Type 0) (then_all : ℕ → Me S SeatView → Type 0)
      → ((words : List ℕ) → slice_set words i (f (slice_index words i)) ≡ written words (more (slice_index words i)))
      → ((all : List Write) (n : ℕ) → IsPastOf past all → IsPastOf (new all n) (all ++ more n))
      → ((all : List Write) (n : ℕ) (w : Me S View) → IsPastOf past all → n ≡ slice_index (written (laid_words base.records) all) i → then (written (laid_words base.records) all) n w → then_all n (seat_view w.0 (new all n), w.1))
      → AllowsOfWords (Rule {S = S} base) slots id (v, carried) i f then
      → Allows (RuleWithHistory {S = S} base) slots id (seat_view v past, carried) i f then_all
  lifts slots id v carried past i f more new then then_all writes goes tells allows t k homes at small =
      let all = k.history.all in
      let n : ℕ = slice_index t.words i in
      let a = allows (without_pasts t) k.rule homes (at_map view_of t.views id (seat_view v past) at) small in
      let x = seat_view a.0 (new all n) in
      let known : IsPastOf past all = k.history.pasts id (seat_view v past) at in (
        x,
        a.1,
        a.2,
        record {
          rule = subst (λ (views : List View). Rule {S = S} base (record { words = slice_set t.words i (f n); homes = table.homes_after t.homes carried a.1; views = views })) (sym (map-set view_of t.views id x)) a.3;
          history = record {
            all = all ++ more n;
            words = writes t.words ∙ ap (λ (ws : List ℕ). written ws (more n)) k.history.words ∙ sym (written-append (laid_words base.records) all (more n));
            pasts = pasts_set t.views id x (all ++ more n) (goes all n known) (λ seat u there. past_longer u.past all (more n) (k.history.pasts seat u there));
          };
        },
        tells all n (a.0, carried_after carried a.1) known (ap (λ (ws : List ℕ). slice_index ws i) k.history.words) (subst (λ (ws : List ℕ). then ws n (a.0, carried_after carried a.1)) k.history.words a.4),
      )

  -- a load that tells nothing of its moment
  pub lifts_load : (slots id : ℕ) (v : View) (carried : List (ℕ × S)) (past : List Write) (i : ℕ) (then : ℕ → Me S View → Type 0)
      → Allows (Rule {S = S} base) slots id (v, carried) i (λ n. n) then
      → Allows (RuleWithHistory {S = S} base) slots id (seat_view v past, carried) i (λ n. n) (staying past then)
  lifts_load slots id v carried past i then =
      lifts slots id v carried past i (λ n. n) (λ _. []) (λ _ _. past) (λ _. then) (staying past then) (λ words. same_words words i) (λ all n p. past_longer past all [] p) (λ all n w p is told. (told, refl))

  -- a store
  pub lifts_store : (slots id : ℕ) (v : View) (carried : List (ℕ × S)) (past : List Write) (i x : ℕ) (then : ℕ → Me S View → Type 0)
      → Allows (Rule {S = S} base) slots id (v, carried) i (λ _. x) then
      → Allows (RuleWithHistory {S = S} base) slots id (seat_view v past, carried) i (λ _. x) (staying past then)
  lifts_store slots id v carried past i x then =
      lifts slots id v carried past i (λ _. x) (λ _. (i, x) ∷ []) (λ _ _. past) (λ _. then) (staying past then) (λ words. refl) (λ all n p. past_longer past all ((i, x) ∷ []) p) (λ all n w p is told. (told, refl))

  -- a step that changes a word to g of what it was, and tells what it found at its moment
  pub lifts_change : (slots id : ℕ) (v : View) (carried : List (ℕ × S)) (past : List Write) (i : ℕ) (f g : ℕ → ℕ) (does : ℕ → Me S View → Type 0) (tells : List ℕ → ℕ → Me S View → Type 0)
      → ((words : List ℕ) (n : ℕ) (w : Me S View) → tells words n w → f n ≡ g n)
      → AllowsOfWords (Rule {S = S} base) slots id (v, carried) i f (λ words n w. does n w × tells words n w)
      → Allows (RuleWithHistory {S = S} base) slots id (seat_view v past, carried) i f (pinning past i g does tells)
  lifts_change slots id v carried past i f g does tells same =
      lifts slots id v carried past i f (λ n. (i, f n) ∷ []) (λ all n. all ++ (i, f n) ∷ []) (λ words n w. does n w × tells words n w) (pinning past i g does tells) (λ words. refl)
      (λ all n p. past_itself (all ++ (i, f n) ∷ []))
      (λ all n w p is told. (told.0, record { earlier = all; goes_on = p; found_is = is; now = told.1; new_is = ap (λ (m : ℕ). all ++ (i, m) ∷ []) (same (written (laid_words base.records) all) n w told.1) }))

  -- a load that tells what it found at its moment
  pub lifts_find : (slots id : ℕ) (v : View) (carried : List (ℕ × S)) (past : List Write) (i : ℕ) (does : ℕ → Me S View → Type 0) (tells : List ℕ → ℕ → Me S View → Type 0)
      → AllowsOfWords (Rule {S = S} base) slots id (v, carried) i (λ n. n) (λ words n w. does n w × tells words n w)
      → Allows (RuleWithHistory {S = S} base) slots id (seat_view v past, carried) i (λ n. n) (finding past i does tells)
  lifts_find slots id v carried past i does tells =
      lifts slots id v carried past i (λ n. n) (λ _. []) (λ all _. all) (λ words n w. does n w × tells words n w) (finding past i does tells) (λ words. same_words words i)
      (λ all n p. past_longer all all [] (past_itself all)) (λ all n w p is told. (told.0, record { goes_on = p; found_is = is; now = told.1 }))

  -- a split: both seats have the past of the one
  pub lifts_split : (id : ℕ) (v left right : View) (past : List Write) → Splits (Rule {S = S} base) id v left right
      → Splits (RuleWithHistory {S = S} base) id (seat_view v past) (seat_view left past) (seat_view right past)
  lifts_split id v left right past splits t k at =
      let all = k.history.all in
      let known : IsPastOf past all = k.history.pasts id (seat_view v past) at in
      let views = set t.views id (seat_view left past) in
      let same : map view_of (views ++ seat_view right past ∷ []) ≡ set (map view_of t.views) id left ++ right ∷ [] = map-append view_of views (seat_view right past ∷ []) ∙ ap (λ (l : List View). l ++ right ∷ []) (map-set view_of t.views id (seat_view left past)) in
      record {
        rule = subst (λ (l : List View). Rule {S = S} base (record { words = t.words; homes = t.homes; views = l })) (sym same) (splits (without_pasts t) k.rule (at_map view_of t.views id (seat_view v past) at));
        history = record {
          all = all;
          words = k.history.words;
          pasts = pasts_snoc views (seat_view right past) all known (pasts_set t.views id (seat_view left past) all known k.history.pasts);
        };
      }

  -- a join: the seat has the longer past, and the spent one has none
  pub lifts_join : (id : ℕ) (v : View) (past : List Write) (other : ℕ) (w : View) (others : List Write) (both spent : View) → Joins (Rule {S = S} base) id v other w both spent
      → Joins (RuleWithHistory {S = S} base) id (seat_view v past) other (seat_view w others) (seat_view both (longer past others)) (seat_view spent [])
  lifts_join id v past other w others both spent joins t k at apart there =
      let all = k.history.all in
      let known : IsPastOf past all = k.history.pasts id (seat_view v past) at in
      let joined = seat_view both (longer past others) in
      let between = set t.views id joined in
      let first : map view_of between ≡ set (map view_of t.views) id both = map-set view_of t.views id joined in
      let known_too : IsPastOf others all = k.history.pasts other (seat_view w others) (sym (set_else t.views id other joined apart) ∙ there) in
      let same : map view_of (set between other (seat_view spent [])) ≡ set (set (map view_of t.views) id both) other spent = map-set view_of between other (seat_view spent []) ∙ ap (λ (l : List View). set l other spent) first in
      record {
        rule = subst (λ (l : List View). Rule {S = S} base (record { words = t.words; homes = t.homes; views = l })) (sym same)
            (joins (without_pasts t) k.rule (at_map view_of t.views id (seat_view v past) at) apart (ap (λ (l : List View). get_elem? l other) (sym first) ∙ at_map view_of between other (seat_view w others) there));
        history = record {
          all = all;
          words = k.history.words;
          pasts = pasts_set between other (seat_view spent []) all (all, refl) (pasts_set t.views id joined all (longer_past past others all known known_too) k.history.pasts);
        };
      }

  -- the end
  pub lowers_final : (id : ℕ) (k : SeatView) (words : List ℕ) (slots : List S) → Final (SeenBy (RuleWithHistory {S = S} base) id k) words slots → Final (SeenBy (Rule {S = S} base) id k.view) words slots
  lowers_final id k words slots last = (without_pasts last.0, (last.1.0.rule, at_map view_of last.0.views id k last.1.1), last.2, last.3, last.4)
