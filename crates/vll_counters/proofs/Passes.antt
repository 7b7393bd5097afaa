-- Which seat has the pass of which ticket, after each kind of change.
use Rattle.std.proofs.Common.{◌≡◌, ◌≢◌, ℕ, List, [], ◌∷◌, ◌++◌, length, set, sym, ap, ◌∙◌, Option, Some, None, ⊎_elim}
use Rattle.vll_counters.proofs.Common.{cases_eq, same_Some, at_set, at_longer, at_last, set_here, set_else, PassView, View, pass_in, ArePasses}
use mathlib.Core.Option.{some, some-injective}
use lib.ListN.{get_elem?}
use Rattle.vll_counters.proofs.Places.{no_some, at_below, at_end, seat_with, seat_here, seat_else}

abbrev ticket_of : PassView → ℕ
ticket_of p = p.ticket

-- the pass of a ticket names it
abbrev pub AreNamed : (ℕ → Option PassView) → Type 0
AreNamed pass = (t : ℕ) (p : PassView) → pass t ≡ Some p → p.ticket ≡ t

-- a view that is there is the one that is found
same_view : (views : List View) (i j : ℕ) (v w : View) → get_elem? views i ≡ some v → j ≡ i → get_elem? views j ≡ some w → w ≡ v
same_view views i j v w at e there = some-injective w v (sym there ∙ ap (get_elem? views) e ∙ at)

module _ (P Q : ℕ → Option PassView) (f : ℕ → ℕ) (views : List View) where
  -- no pass changes
  pub passes_same : ((t : ℕ) → Q t ≡ P t) → ArePasses P f views → ArePasses Q f views
  passes_same same s = record {
    each = λ k v p at has. let o = s.each k v p at has in (o.0, same p.ticket ∙ o.1);
    all = λ t p is. s.all t p (sym (same t) ∙ is);
  }

  -- a seat's view changes, and its pass stays
  pub passes_reviewed : (by : ℕ) (v w : View) → get_elem? views by ≡ some v → pass_in w ≡ pass_in v → ArePasses P f views → ArePasses P f (set views by w)
  passes_reviewed by v w at same s = record {
    each = λ k u p e has. ⊎_elim
        (λ (h : (k ≡ by) × (w ≡ u)). s.each k v p (ap (get_elem? views) h.0 ∙ at) (sym same ∙ ap pass_in h.1 ∙ has))
        (λ (h : (k ≢ by) × (get_elem? views k ≡ some u)). s.each k u p h.1 has)
        (at_set views by k w u e);
    all = λ t p is. let there = s.all t p is in ⊎_elim
        (λ (x : f t ≡ by). let old = same_view views by (f t) v there.0 at x there.1 in
        (w, ap (get_elem? (set views by w)) x ∙ set_here views by w (at_below views by v at), same ∙ ap pass_in (sym old) ∙ there.2))
        (λ (x : f t ≢ by). (there.0, set_else views by (f t) w x ∙ there.1, there.2))
        (cases_eq (f t) by);
  }

  -- a ticket goes on, by a step of its seat
  pub passes_moved : (by : ℕ) (v w : View) (p q : PassView) → get_elem? views by ≡ some v → pass_in v ≡ Some p → pass_in w ≡ Some q → q.ticket ≡ p.ticket → Q p.ticket ≡ Some q
      → ((t : ℕ) → t ≢ p.ticket → Q t ≡ P t) → AreNamed P → ArePasses P f views → ArePasses Q f (set views by w)
  passes_moved by v w p q at has now name here others named s =
      let mine = s.each by v p at has in
      record {
        each = λ k u x e has'. ⊎_elim
            (λ (h : (k ≡ by) × (w ≡ u)).
            let is_q : q ≡ x = same_Some q x (sym now ∙ ap pass_in h.1 ∙ has') in
            let ticket : x.ticket ≡ p.ticket = ap ticket_of (sym is_q) ∙ name in
            (ap f ticket ∙ mine.0 ∙ sym h.0, ap Q ticket ∙ here ∙ ap Some is_q))
            (λ (h : (k ≢ by) × (get_elem? views k ≡ some u)).
            let o = s.each k u x h.1 has' in
            (o.0, others x.ticket (λ y. h.0 (sym o.0 ∙ ap f y ∙ mine.0)) ∙ o.1))
            (at_set views by k w u e);
        all = λ t y is. ⊎_elim
            (λ (x : t ≡ p.ticket).
            let is_q : q ≡ y = same_Some q y (sym here ∙ ap Q (sym x) ∙ is) in
            (w, ap (λ n. get_elem? (set views by w) (f n)) x ∙ ap (get_elem? (set views by w)) mine.0 ∙ set_here views by w (at_below views by v at), now ∙ ap Some is_q))
            (λ (x : t ≢ p.ticket).
            let was : P t ≡ Some y = sym (others t x) ∙ is in
            let there = s.all t y was in
            let apart : f t ≢ by = λ z.
            let old = same_view views by (f t) v there.0 at z there.1 in
            let both : p ≡ y = same_Some p y (sym has ∙ ap pass_in (sym old) ∙ there.2) in
            x (sym (named t y was) ∙ sym (ap ticket_of both)) in
            (there.0, set_else views by (f t) w apart ∙ there.1, there.2))
            (cases_eq t p.ticket);
      }

  -- a new seat has the pass of a ticket that had none
  pub passes_given : (t : ℕ) (p : PassView) (w : View) → pass_in w ≡ Some p → p.ticket ≡ t → Q t ≡ Some p → P t ≡ None
      → ((n : ℕ) → n ≢ t → Q n ≡ P n) → ArePasses P f views → ArePasses Q (seat_with f t (length views)) (views ++ w ∷ [])
  passes_given t p w now name here none others s =
      let own = seat_with f t (length views) in
      let mine : own t ≡ length views = seat_here f t (length views) in
      record {
        each = λ k u x e has. ⊎_elim
            (λ (h : get_elem? views k ≡ some u).
            let o = s.each k u x h has in
            let apart : x.ticket ≢ t = λ y. no_some x (sym none ∙ ap P (sym y) ∙ o.1) in
            (seat_else f t (length views) x.ticket apart ∙ o.0, others x.ticket apart ∙ o.1))
            (λ (h : (k ≡ length views) × (w ≡ u)).
            let is_p : p ≡ x = same_Some p x (sym now ∙ ap pass_in h.1 ∙ has) in
            let ticket : x.ticket ≡ t = ap ticket_of (sym is_p) ∙ name in
            (ap own ticket ∙ mine ∙ sym h.0, ap Q ticket ∙ here ∙ ap Some is_p))
            (at_end views w u k e);
        all = λ n y is. ⊎_elim
            (λ (x : n ≡ t).
            let is_p : p ≡ y = same_Some p y (sym here ∙ ap Q (sym x) ∙ is) in
            (w, ap (λ m. get_elem? (views ++ w ∷ []) (own m)) x ∙ at_last views w (own t) (sym mine), now ∙ ap Some is_p))
            (λ (x : n ≢ t).
            let there = s.all n y (sym (others n x) ∙ is) in
            (there.0, ap (get_elem? (views ++ w ∷ [])) (seat_else f t (length views) n x) ∙ at_longer views (w ∷ []) (f n) there.0 there.1, there.2))
            (cases_eq n t);
      }

  -- a new seat has no pass
  pub passes_pushed : (w : View) → pass_in w ≡ None → ArePasses P f views → ArePasses P f (views ++ w ∷ [])
  passes_pushed w empty s = record {
    each = λ k u p e has. ⊎_elim
        (λ (h : get_elem? views k ≡ some u). s.each k u p h has)
        (λ (h : (k ≡ length views) × (w ≡ u)). no_some p (sym empty ∙ ap pass_in h.1 ∙ has))
        (at_end views w u k e);
    all = λ t p is. let there = s.all t p is in (there.0, at_longer views (w ∷ []) (f t) there.0 there.1, there.2);
  }

  -- a pass goes from one seat to another, which had none
  pub passes_come : (by other : ℕ) (v w u x : View) (p : PassView) → get_elem? views by ≡ some v → pass_in v ≡ None → pass_in w ≡ Some p → other ≢ by → get_elem? views other ≡ some u → pass_in u ≡ Some p
      → pass_in x ≡ None → AreNamed P → ArePasses P f views → ArePasses P (seat_with f p.ticket by) (set (set views by w) other x)
  passes_come by other v w u x p at none now apart there has gone named s =
      let mine = s.each other u p there has in
      let own = seat_with f p.ticket by in
      let here : own p.ticket ≡ by = seat_here f p.ticket by in
      record {
        each = λ k z y e h'. ⊎_elim
            (λ (h : (k ≡ other) × (x ≡ z)). no_some y (sym gone ∙ ap pass_in h.1 ∙ h'))
            (λ (h : (k ≢ other) × (get_elem? (set views by w) k ≡ some z)). ⊎_elim
            (λ (g : (k ≡ by) × (w ≡ z)).
            let is_p : p ≡ y = same_Some p y (sym now ∙ ap pass_in g.1 ∙ h') in
            let ticket : y.ticket ≡ p.ticket = ap ticket_of (sym is_p) in
            (ap own ticket ∙ here ∙ sym g.0, ap P ticket ∙ mine.1 ∙ ap Some is_p))
            (λ (g : (k ≢ by) × (get_elem? views k ≡ some z)).
            let o = s.each k z y g.1 h' in
            (seat_else f p.ticket by y.ticket (λ e. h.0 (sym o.0 ∙ ap f e ∙ mine.0)) ∙ o.0, o.1))
            (at_set views by k w z h.1))
            (at_set (set views by w) other k x z e);
        all = λ n y is. ⊎_elim
            (λ (e : n ≡ p.ticket).
            let is_p : p ≡ y = same_Some p y (sym mine.1 ∙ ap P (sym e) ∙ is) in (
              w,
              ap (λ m. get_elem? (set (set views by w) other x) (own m)) e ∙ ap (get_elem? (set (set views by w) other x)) here
                  ∙ set_else (set views by w) other by x (λ b. apart (sym b)) ∙ set_here views by w (at_below views by v at),
              now ∙ ap Some is_p,
            ))
            (λ (e : n ≢ p.ticket).
            let z = s.all n y is in
            let not_by : f n ≢ by = λ b. no_some y (sym none ∙ ap pass_in (sym (same_view views by (f n) v z.0 at b z.1)) ∙ z.2) in
            let not_other : f n ≢ other = λ b.
            let both : p ≡ y = same_Some p y (sym has ∙ ap pass_in (sym (same_view views other (f n) u z.0 there b z.1)) ∙ z.2) in
            e (sym (named n y is) ∙ sym (ap ticket_of both)) in
            (z.0, ap (get_elem? (set (set views by w) other x)) (seat_else f p.ticket by n e) ∙ set_else (set views by w) other (f n) x not_other ∙ set_else views by (f n) w not_by ∙ z.1, z.2))
            (cases_eq n p.ticket);
      }

  -- a ticket ends, and its seat has no pass any more
  pub passes_ended : (by : ℕ) (v w : View) (p : PassView) → get_elem? views by ≡ some v → pass_in v ≡ Some p → pass_in w ≡ None → Q p.ticket ≡ None
      → ((t : ℕ) → t ≢ p.ticket → Q t ≡ P t) → AreNamed P → ArePasses P f views → ArePasses Q f (set views by w)
  passes_ended by v w p at has gone here others named s =
      let mine = s.each by v p at has in
      record {
        each = λ k u x e has'. ⊎_elim
            (λ (h : (k ≡ by) × (w ≡ u)). no_some x (sym gone ∙ ap pass_in h.1 ∙ has'))
            (λ (h : (k ≢ by) × (get_elem? views k ≡ some u)).
            let o = s.each k u x h.1 has' in
            (o.0, others x.ticket (λ y. h.0 (sym o.0 ∙ ap f y ∙ mine.0)) ∙ o.1))
            (at_set views by k w u e);
        all = λ t y is. ⊎_elim
            (λ (x : t ≡ p.ticket). no_some y (sym here ∙ ap Q (sym x) ∙ is))
            (λ (x : t ≢ p.ticket).
            let was : P t ≡ Some y = sym (others t x) ∙ is in
            let there = s.all t y was in
            let apart : f t ≢ by = λ z.
            let old = same_view views by (f t) v there.0 at z there.1 in
            let both : p ≡ y = same_Some p y (sym has ∙ ap pass_in (sym old) ∙ there.2) in
            x (sym (named t y was) ∙ sym (ap ticket_of both)) in
            (there.0, set_else views by (f t) w apart ∙ there.1, there.2))
            (cases_eq t p.ticket);
      }
