use Rattle.std.proofs.Common.{◌≡◌, zero, suc, List, [], ◌∷◌, ◌++◌, length, All, refl, sym, ap, ◌∙◌, subst, append_assoc, arith}
use Rattle.vll_counters.specs.Shown.{QueueShown, SessionShown}
use Rattle.vll_counters.specs.Headline.Views.{calls_in}
use Rattle.vll_queue.specs.Sessions.{HasItsCalls}
use Rattle.vll_queue.specs.Shown.{shown_in}
use Rattle.vll_queue.proofs.locked.close.visit_all.Goals as goal

nothing_left : {A : Type 0} (xs : List A) → length xs ≡ 0 → xs ≡ []
nothing_left [] e = refl
nothing_left (x ∷ xs) e = absurd (omega (arith, e))

-- one more in front
all_behind : (P : SessionShown → Type 0) (x : SessionShown) (xs : List SessionShown) → P x → All P xs → All P (x ∷ xs)
all_behind P x xs first rest zero d low = first
all_behind P x xs first rest (suc k) d low = rest k d (omega (arith, low))

pub loop-session-preserved : goal.loop-session-preserved
loop-session-preserved c =
    let i = c.loop-session.invariant in
    let own : c.in-Some-seat.seat ≡ c.in-Some.session = ap shown_in (sym c.in-Some-seat.is) ∙ c.session.view_is in
    let has = subst (λ (p : QueueShown × SessionShown). HasItsCalls (calls_in p.0.lines) p.1.session) (λ k. (i.queue k, own k)) c.visit.ensures.session in
    record {
      queue = c.visit.ensures.same ∙ ap (λ (q : QueueShown). let x : QueueShown = record q { past = c.visit.new.queue.past } in x) i.queue;
      come = c.in-Some.session ∷ i.come;
      all = i.all ∙ ap (λ (xs : List SessionShown). xs ++ i.come) c.in-Some.ensures.items ∙ append_assoc c.pop.new.self.items (c.in-Some.session ∷ []) i.come;
      have = all_behind (λ (s : SessionShown). HasItsCalls (calls_in c.args.queue.now.lines) s.session) c.in-Some.session i.come has i.have;
      room = c.in-Some.ensures.capacity ∙ i.room;
    }

pub returns-clause-sessions : goal.returns-clause-sessions
returns-clause-sessions c =
    let i = c.loop-session.invariant in
    let none : c.loop-session.sessions.items ≡ [] = nothing_left c.loop-session.sessions.items (sym c.loop-session.sessions.ok.0 ∙ c.in_default.ensures.cases.0) in
    let all : c.args.sessions.now.items ≡ i.come = i.all ∙ ap (λ (xs : List SessionShown). xs ++ i.come) none in
    subst (λ (l : List SessionShown). All (λ (s : SessionShown). HasItsCalls (calls_in c.args.queue.now.lines) s.session) l) (sym all) i.have
