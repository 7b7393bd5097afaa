-- Each pair word counts the open claims that the views show: the passes at the seats are those of the running tickets,
-- each once.
use Rattle.std.proofs.Common.{◌≡◌, ◌≢◌, ℕ, zero, suc, ◌+◌, ◌<◌, ◌≤◌, ◌==◌, Bool, true, false, List, [], ◌∷◌, ◌++◌, map, length, drop, refl, sym, ap, ap₂, ◌∙◌, arith, add-zero, Option, Some, None, slice_get, ⊎_elim, if◌then◌else◌}
use Rattle.vll_counters.proofs.Common.{enumerate_from, flat_map, option_map, cases_eq, exact_unsigned_eq, slice_get_within, Claim, Made, Status, Running, Waiting, Gone, is_waiting, is_running, is_gone, Base, Entered, Turn, State, entered, open_of, requested_of, if_running, eq_same, drop_none, word_on, word_on-append, kept_reached, PassView, QueueView, View, Queue, pass_in, ArePasses, widest, turn_view, pass_for, pass_of, PairWordsCountOpenClaims}
use mathlib.Core.Option.{some, some-injective, some-ne-none}
use lib.ListN.{get_elem?}
use Rattle.vll_counters.specs.Headline.Open.{requested_in, waiting_in, held_by, held_in}
use Rattle.vll_counters.proofs.Passes.{AreNamed}
use Rattle.vll_counters.proofs.Places.{no_some}
use Rattle.vll_counters.proofs.States.{status_of, line_by, pass_is, passes_named}
use Rattle.vll_counters.proofs.Fresh.{fresh_reached}

-- ---- sums over the first places, and over the views

abbrev sum_to : ℕ → (ℕ → ℕ) → ℕ
sum_to zero a = 0
sum_to (suc n) a = sum_to n a + a n

sum_to-none : (n : ℕ) (a : ℕ → ℕ) → ((t : ℕ) → t < n → a t ≡ 0) → sum_to n a ≡ 0
sum_to-none zero a none = refl
sum_to-none (suc n) a none = let rest = sum_to-none n a (λ t lt. none t (omega (arith, lt))) in let last = none n (omega arith) in omega (arith, rest, last)

-- one place alone counts
sum_to-one : (n k : ℕ) (a : ℕ → ℕ) → k < n → ((t : ℕ) → t ≢ k → a t ≡ 0) → sum_to n a ≡ a k
sum_to-one zero k a lt none = absurd (omega (arith, lt))
sum_to-one (suc n) k a lt none = ⊎_elim
    (λ (same : k ≡ n).
    let rest = sum_to-none n a (λ t below. none t (λ e. omega (arith, below, e, same))) in
    let last : a n ≡ a k = ap a (sym same) in
    omega (arith, rest, last))
    (λ (apart : k ≢ n).
    let rest = sum_to-one n k a (omega (arith, lt, apart)) none in
    let last = none n (λ e. apart (sym e)) in
    omega (arith, rest, last))
    (cases_eq k n)

sum_to-same : (n : ℕ) (a b : ℕ → ℕ) → ((t : ℕ) → a t ≡ b t) → sum_to n a ≡ sum_to n b
sum_to-same zero a b same = refl
sum_to-same (suc n) a b same = ap₂ (λ x y. x + y) (sum_to-same n a b same) (same n)

sum_to-plus : (n : ℕ) (a b : ℕ → ℕ) → sum_to n (λ t. a t + b t) ≡ sum_to n a + sum_to n b
sum_to-plus zero a b = refl
sum_to-plus (suc n) a b = let rest = sum_to-plus n a b in omega (arith, rest)

-- the first place on its own
sum_to-first : (n : ℕ) (a : ℕ → ℕ) → sum_to (suc n) a ≡ a 0 + sum_to n (λ t. a (suc t))
sum_to-first zero a = omega arith
sum_to-first (suc n) a = let rest = sum_to-first n a in omega (arith, rest)

abbrev sum_over : (View → ℕ) → List View → ℕ
sum_over g [] = 0
sum_over g (v ∷ views) = g v + sum_over g views

over-none : (g : View → ℕ) (views : List View) → ((k : ℕ) (u : View) → get_elem? views k ≡ some u → g u ≡ 0) → sum_over g views ≡ 0
over-none g [] none = refl
over-none g (v ∷ views) none =
    let first = none 0 v refl in
    let rest = over-none g views (λ k u at. none (suc k) u at) in
    omega (arith, first, rest)

-- one seat alone counts
over-one : (g : View → ℕ) (views : List View) (k : ℕ) (v : View) → get_elem? views k ≡ some v → ((j : ℕ) (u : View) → get_elem? views j ≡ some u → j ≢ k → g u ≡ 0)
    → sum_over g views ≡ g v
over-one g [] k v at none = absurd (some-ne-none v (sym at))
over-one g (x ∷ views) zero v at none =
    let rest = over-none g views (λ j u there. none (suc j) u there (λ e. omega (arith, e))) in
    let first : g x ≡ g v = ap g (some-injective x v at) in
    omega (arith, rest, first)
over-one g (x ∷ views) (suc k) v at none =
    let first = none 0 x refl (λ e. omega (arith, e)) in
    let rest = over-one g views k v at (λ j u there apart. none (suc j) u there (λ e. apart (let same : j ≡ k = omega (arith, e) in same))) in
    omega (arith, first, rest)

over-same : (g h : View → ℕ) (views : List View) → ((k : ℕ) (u : View) → get_elem? views k ≡ some u → g u ≡ h u) → sum_over g views ≡ sum_over h views
over-same g h [] same = refl
over-same g h (v ∷ views) same = ap₂ (λ x y. x + y) (same 0 v refl) (over-same g h views (λ k u at. same (suc k) u at))

-- first over the places or first over the seats
over-places : (n : ℕ) (views : List View) (h : View → ℕ → ℕ) → sum_over (λ v. sum_to n (h v)) views ≡ sum_to n (λ t. sum_over (λ v. h v t) views)
over-places n [] h = sym (sum_to-none n (λ t. 0) (λ t lt. refl))
over-places n (v ∷ views) h = ap (λ x. sum_to n (h v) + x) (over-places n views h) ∙ sym (sum_to-plus n (h v) (λ t. sum_over (λ u. h u t) views))

hit : (b : Bool) (x : ℕ) → b ≡ true → (if b then x else 0) ≡ x
hit true x is = refl
hit false x is = absurd (cc is)

missed : (b : Bool) (x : ℕ) → (b ≡ true → ⊥) → (if b then x else 0) ≡ 0
missed true x not = absurd (not refl)
missed false x not = refl

-- ---- what passes count

module _ (r : ℕ) where
  -- what the claims of a pass count
  abbrev weight : Option PassView → ℕ
  weight x = word_on r (held_by x)

  -- what the claims of a pass count, at its own ticket alone
  abbrev part : Option PassView → ℕ → ℕ
  part None t = 0
  part (Some p) t = if p.ticket == t then weight (Some p) else 0

  part-all : (n : ℕ) (x : Option PassView) → ((p : PassView) → x ≡ Some p → p.ticket < n) → sum_to n (part x) ≡ weight x
  part-all n None below = sum_to-none n (λ t. 0) (λ t lt. refl)
  part-all n (Some p) below =
      sum_to-one n p.ticket (part (Some p)) (below p refl) (λ t apart. missed (p.ticket == t) _ (λ is. apart (sym (exact_unsigned_eq p.ticket t is))))
      ∙ hit (p.ticket == p.ticket) _ (eq_same p.ticket p.ticket refl)

  -- each running ticket has its pass at one seat, and no seat has one of another ticket
  passes_count : (P : ℕ → Option PassView) (f : ℕ → ℕ) (views : List View) (n : ℕ) → ArePasses P f views → AreNamed P → ((t : ℕ) (p : PassView) → P t ≡ Some p → t < n)
      → sum_over (λ v. weight (pass_in v)) views ≡ sum_to n (λ t. weight (P t))
  passes_count P f views n are named below =
      over-same (λ v. weight (pass_in v)) (λ v. sum_to n (part (pass_in v))) views
      (λ k u at. sym (part-all n (pass_in u) (λ p has. below p.ticket p (are.each k u p at has).1)))
      ∙ over-places n views (λ v. part (pass_in v))
      ∙ sum_to-same n (λ t. sum_over (λ v. part (pass_in v) t) views) (λ t. weight (P t)) (λ t. at_ticket t (P t) refl)
    where
      -- a pass of another ticket counts nothing
      other : (t : ℕ) (x : Option PassView) → ((p : PassView) → x ≡ Some p → p.ticket ≢ t) → part x t ≡ 0
      other t None apart = refl
      other t (Some p) apart = missed (p.ticket == t) _ (λ is. apart p refl (exact_unsigned_eq p.ticket t is))

      at_ticket : (t : ℕ) (x : Option PassView) → P t ≡ x → sum_over (λ v. part (pass_in v) t) views ≡ weight x
      at_ticket t None is =
          over-none (λ v. part (pass_in v) t) views
          (λ k u at. other t (pass_in u) (λ p has same. no_some p (sym is ∙ ap P (sym same) ∙ (are.each k u p at has).1)))
      at_ticket t (Some p) is =
          let there = are.all t p is in
          over-one (λ v. part (pass_in v) t) views (f t) there.0 there.1
          (λ j u at apart. other t (pass_in u) (λ q has same. apart (sym (are.each j u q at has).0 ∙ ap f same)))
          ∙ ap (λ (x : Option PassView). part x t) there.2
          ∙ hit (p.ticket == t) _ (eq_same p.ticket t (named t p is))

  held_count : (views : List View) → word_on r (held_in views) ≡ sum_over (λ v. weight (pass_in v)) views
  held_count [] = refl
  held_count (v ∷ views) = word_on-append r (held_by (pass_in v)) (held_in views) ∙ ap (λ x. weight (pass_in v) + x) (held_count views)

  -- ---- what entries count

  -- what the open claims of a running call count
  abbrev own_weight : Option Entered → ℕ
  own_weight None = 0
  own_weight (Some e) = word_on r (open_of e)

  -- all claims of the calls that wait
  abbrev waits : List Entered → List Claim
  waits [] = []
  waits (e ∷ es) = (if is_waiting e.status then e.call.claims else []) ++ waits es

  -- a call that waits has released nothing, and one that is gone everything
  record IsEven (e : Entered) : Type 0 where
    waiting : is_waiting e.status ≡ true → e.releases ≡ 0
    gone : is_gone e.status ≡ true → length e.call.claims ≤ e.releases

  one_entry : (e : Entered) → IsEven e → word_on r (open_of e) ≡ word_on r (if is_waiting e.status then e.call.claims else []) + own_weight (if_running (Some e))
  one_entry e even = by_status e.status refl
    where
      by_status : (x : Status) → e.status ≡ x → word_on r (open_of e) ≡ word_on r (if is_waiting x then e.call.claims else []) + own_weight (if is_running x then Some e else None)
      by_status Running is = omega arith
      by_status Waiting is = ap (λ n. word_on r (drop n e.call.claims)) (even.waiting (ap is_waiting is)) ∙ sym (add-zero (word_on r e.call.claims))
      by_status Gone is = ap (word_on r) (drop_none e.releases e.call.claims (even.gone (ap is_gone is)))

  entries_count : (es : List Entered) → ((t : ℕ) (e : Entered) → slice_get es t ≡ Some e → IsEven e)
      → word_on r (flat_map open_of es) ≡ word_on r (waits es) + sum_to (length es) (λ t. own_weight (if_running (slice_get es t)))
  entries_count [] even = refl
  entries_count (e ∷ es) even =
      let both = word_on-append r (open_of e) (flat_map open_of es) in
      let wait = word_on-append r (if is_waiting e.status then e.call.claims else []) (waits es) in
      let one = one_entry e (even 0 e refl) in
      let rest = entries_count es (λ t d at. even (suc t) d at) in
      let first = sum_to-first (length es) (λ t. own_weight (if_running (slice_get (e ∷ es) t))) in
      omega (arith, both, wait, one, rest, first)

  weight_of : (base : Base) (calls : List Made) (t : ℕ) (x : Option Entered) → own_weight x ≡ weight (option_map (pass_for base calls t) x)
  weight_of base calls t None = refl
  weight_of base calls t (Some e) = refl

  -- the lines and the statuses tell which calls wait
  lines_wait : (base : Base) (calls : List Made) (n : ℕ) (es : List Entered) → waiting_in (map (line_by base calls) (enumerate_from n es)) (map status_of es) ≡ waits es
  lines_wait base calls n [] = refl
  lines_wait base calls n (e ∷ es) = ap (λ (cs : List Claim). (if is_waiting e.status then e.call.claims else []) ++ cs) (lines_wait base calls (n + 1) es)

  turn_claims : (x : Option Turn) → requested_of x ≡ requested_in (turn_view x)
  turn_claims None = refl
  turn_claims (Some turn) = refl

-- the queue's view is the one at its seat
queue_is : (q u : QueueView) → ◌≡◌ {A = View} (Queue q) (Queue u) → q ≡ u
queue_is q u e = cc e

pub pairs_count : PairWordsCountOpenClaims
pairs_count base m q r rule at there =
    let s : State = rule.state in
    let calls : List Made = entered s in
    let own : rule.queue ≡ q = queue_is rule.queue q (some-injective (Queue rule.queue) (Queue q) (sym rule.at_queue ∙ at)) in
    let kept = kept_reached (widest base) s rule.shows.reached in
    let fresh = fresh_reached (widest base) s rule.shows.reached in
    let counted = word_on-append r (flat_map open_of s.entries) (requested_of s.turn) in
    let entries = entries_count r s.entries (λ t e here. record { waiting = λ w. (fresh t e here w).releases; gone = λ g. (kept.entries t e here).gone g }) in
    let running =
    sum_to-same (length s.entries) (λ t. own_weight r (if_running (slice_get s.entries t))) (λ t. weight r (pass_of base s t)) (λ t. weight_of r base calls t (if_running (slice_get s.entries t))) in
    let held = held_count r m.views in
    let seats = passes_count r (pass_of base s) rule.pass_seat m.views (length s.entries) rule.passes (passes_named base s)
    (λ t p is. let o = pass_is base s t p is in slice_get_within s.entries t o.entry o.at) in
    let turn : word_on r (requested_of s.turn) ≡ word_on r (requested_in q.turn) =
    ap (word_on r) (turn_claims r s.turn ∙ ap requested_in (sym rule.shows.turn ∙ ap (λ (x : QueueView). x.turn) own)) in
    let waiting : word_on r (waits r s.entries) ≡ word_on r (waiting_in q.lines q.statuses) =
    ap (word_on r) (sym (lines_wait r base calls 0 s.entries)
    ∙ ap₂ waiting_in (sym rule.shows.lines ∙ ap (λ (x : QueueView). x.lines) own) (sym rule.shows.statuses ∙ ap (λ (x : QueueView). x.statuses) own)) in
    let views = word_on-append r (requested_in q.turn ++ waiting_in q.lines q.statuses) (held_in m.views) in
    let queue = word_on-append r (requested_in q.turn) (waiting_in q.lines q.statuses) in
    rule.words.pairs r there ∙ (omega (arith, counted, entries, running, held, seats, turn, waiting, views, queue))
