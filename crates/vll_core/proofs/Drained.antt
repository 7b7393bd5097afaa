-- Lists of events that lead from a state to another, none of them Find, Enter or Scan and none refused.
use Rattle.std.proofs.Common.{◌≡◌, ℕ, ◌+◌, ◌<◌, ◌^◌, true, false, List, [], ◌∷◌, ◌++◌, length, All, Ok, Err, Result, is_ok, refl, sym, ap, ◌∙◌, subst, arith, length-append}
use Rattle.vll_core.proofs.Common.{All-push, Event, Refusal, Seen, Opening, State, Outcome, step, state_after, answer_of, answers, run, begins_or_scans, IsDrained, IsNext, left, IsReached, Shown, opening_of, after}
use Rattle.vll_core.proofs.Draining.{less_left}

-- one more event after a list
run_more : (o : Opening) (s : State) (events : List Event) (e : Event) → run o s (events ++ e ∷ []) ≡ state_after (run o s events) (step o (run o s events) e)
run_more o s [] e = refl
run_more o s (d ∷ events) e = run_more o (state_after s (step o s d)) events e

answers_more : (o : Opening) (s : State) (events : List Event) (e : Event) → answers o s (events ++ e ∷ []) ≡ answers o s events ++ answer_of (step o (run o s events) e) ∷ []
answers_more o s [] e = refl
answers_more o s (d ∷ events) e = ap (λ (xs : List (Result Seen Refusal)). answer_of (step o s d) ∷ xs) (answers_more o (state_after s (step o s d)) events e)

answer_of_ok : (out : Outcome) → is_ok out ≡ true → is_ok (answer_of out) ≡ true
answer_of_ok (Ok x) h = refl
answer_of_ok (Err why) h = absurd (cc h)

-- and one more
pub drained_more : (o : Opening) (s mid : State) (made : ℕ) (e : Event) → IsDrained o s mid made → IsNext o mid e → IsDrained o s (state_after mid (step o mid e)) (made + 1)
drained_more o s mid made e so_far next =
    let here : run o s so_far.events ≡ mid = so_far.leads in
    let ok : is_ok (answer_of (step o (run o s so_far.events) e)) ≡ true = ap (λ (x : State). is_ok (answer_of (step o x e))) here ∙ answer_of_ok (step o mid e) next.taken in
    record {
      events = so_far.events ++ e ∷ [];
      number = omega (arith, length-append so_far.events (e ∷ []), so_far.number);
      others = All-push (λ (d : Event). begins_or_scans d ≡ false) so_far.events e so_far.others next.other;
      taken =
          subst (All (λ (answer : Result Seen Refusal). is_ok answer ≡ true)) (sym (answers_more o s so_far.events e))
          (All-push (λ (answer : Result Seen Refusal). is_ok answer ≡ true) (answers o s so_far.events) _ so_far.taken ok);
      leads = run_more o s so_far.events e ∙ ap (λ (x : State). state_after x (step o x e)) here;
    }

-- it lessens what is left
pub less_next : (o : Opening) (s : State) (e : Event) → IsReached o s → IsNext o s e → left (state_after s (step o s e)) < left s
less_next o s e reached next = by_outcome (step o s e) refl next.taken
  where
    by_outcome : (out : Outcome) → step o s e ≡ out → is_ok out ≡ true → left (state_after s out) < left s
    by_outcome (Ok x) is ok = less_left o s e x reached next.other is
    by_outcome (Err why) is ok = absurd (cc ok)

-- ---- a machine that is drained

-- the event that is next in what a field shows is next in what is seen
pub next_seen : {H : Type 0} (places : H → ℕ → ℕ) (m s : Shown H) (e : Event) → m ≡ s → IsNext (opening_of places m) m.state e → IsNext (opening_of places s) s.state e
next_seen {H} places m s e view next = subst (λ (x : Shown H). IsNext (opening_of places x) x.state e) view next

-- the event lessens what is left
pub less_seen : {H : Type 0} (places : H → ℕ → ℕ) (m s t : Shown H) (e : Event) → m ≡ s → IsReached (opening_of places m) m.state → IsNext (opening_of places m) m.state e
    → t ≡ after s (step (opening_of places s) s.state e) → left t.state < left s.state
less_seen {H} places m s t e view reached next is =
    subst (λ (x : State). left x < left s.state) (sym (ap (λ (x : Shown H). x.state) is))
    (less_next (opening_of places s) s.state e (subst (λ (x : Shown H). IsReached (opening_of places x) x.state) view reached) (next_seen places m s e view next))

-- and is one more of the events that were made
pub drained_seen : {H : Type 0} (places : H → ℕ → ℕ) (first m s t : Shown H) (made : ℕ) (e : Event) → s ≡ record first { state = s.state } → IsDrained (opening_of places first) first.state s.state made → m ≡ s
    → IsNext (opening_of places m) m.state e → t ≡ after s (step (opening_of places s) s.state e) → IsDrained (opening_of places first) first.state t.state (made + 1)
drained_seen {H} places first m s t made e fixed so_far view next is =
    let o : Opening = opening_of places first in
    let same : opening_of places s ≡ o = ap (λ (x : Shown H). opening_of places x) fixed in
    let here : IsNext o s.state e = subst (λ (x : Opening). IsNext x s.state e) same (next_seen places m s e view next) in
    subst (λ (x : State). IsDrained o first.state x (made + 1)) (sym (ap (λ (x : Shown H). x.state) is))
    (subst (λ (x : Opening). IsDrained o first.state (state_after s.state (step x s.state e)) (made + 1)) (sym same) (drained_more o first.state s.state made e so_far here))

-- nothing but the state changes
pub fixed_seen : {H : Type 0} (first s t : Shown H) (out : Outcome) → s ≡ record first { state = s.state } → t ≡ after s out → t ≡ record first { state = t.state }
fixed_seen {H} first s t out fixed is =
    is
    ∙ (ap (λ (x : Shown H). let y : Shown H = record x { state = state_after s.state out } in y) fixed
    ∙ ap (λ (x : State). let y : Shown H = record first { state = x } in y) (sym (ap (λ (x : Shown H). x.state) is)))

-- little was left at first: if events were made this is given, and if none was, little is left now
pub few_first : (o : Opening) (first mid : State) (made : ℕ) → IsDrained o first mid made → (0 < made → left first < 2 ^ 32) → left mid < 2 ^ 32 → left first < 2 ^ 32
few_first o first mid made so_far before few = by_events so_far.events so_far.number so_far.leads
  where
    by_events : (events : List Event) → length events ≡ made → run o first events ≡ mid → left first < 2 ^ 32
    by_events [] number leads = subst (λ (x : State). left x < 2 ^ 32) (sym leads) few
    by_events (e ∷ events) number leads = before (omega (arith, number))
