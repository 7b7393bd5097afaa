-- The news that seats have is of a beginning of the entered calls, after each kind of change; and its own steps keep the rule.
use Rattle.std.proofs.Common.{◌≡◌, ◌≢◌, ℕ, List, [], ◌∷◌, ◌++◌, length, set, sym, ap, ◌∙◌, Some, None, ⊎_elim, append_assoc}
use Rattle.vll_counters.proofs.Common.{append-nil, at_set, Made, View, Begins, news_in, AreNews}
use mathlib.Core.Option.{some}
use lib.ListN.{get_elem?}
use Rattle.vll_counters.proofs.Places.{no_some, at_end}

-- ---- beginnings of lists

pub begins_same : (xs ys : List Made) → xs ≡ ys → Begins xs ys
begins_same xs ys same = ([], sym same ∙ sym (append-nil xs))

pub begins_further : (xs ys zs : List Made) → Begins xs ys → Begins ys zs → Begins xs zs
begins_further xs ys zs b c = (b.0 ++ c.0, c.1 ∙ ap (λ (l : List Made). l ++ c.0) b.1 ∙ append_assoc xs b.0 c.0)

-- ---- the news of all seats

module _ (calls : List Made) (views : List View) where
  -- more calls enter
  pub news_kept : (all : List Made) → Begins calls all → AreNews calls views → AreNews all views
  news_kept all more s seat v heard at has = begins_further heard calls all (s seat v heard at has) more

  -- a seat's view changes, and its news, if it has any, is right
  pub news_set : (by : ℕ) (w : View) → ((heard : List Made) → news_in w ≡ Some heard → Begins heard calls) → AreNews calls views → AreNews calls (set views by w)
  news_set by w right s seat v heard at has = ⊎_elim
      (λ (h : (seat ≡ by) × (w ≡ v)). right heard (ap news_in h.1 ∙ has))
      (λ (h : (seat ≢ by) × (get_elem? views seat ≡ some v)). s seat v heard h.1 has)
      (at_set views by seat w v at)

  -- there is one more seat, and its news, if it has any, is right
  pub news_pushed : (w : View) → ((heard : List Made) → news_in w ≡ Some heard → Begins heard calls) → AreNews calls views → AreNews calls (views ++ w ∷ [])
  news_pushed w right s seat v heard at has = ⊎_elim
      (λ (h : get_elem? views seat ≡ some v). s seat v heard h has)
      (λ (h : (seat ≡ length views) × (w ≡ v)). right heard (ap news_in h.1 ∙ has))
      (at_end views w v seat at)

  -- a seat that has none changes, or is new
  pub news_reviewed : (by : ℕ) (w : View) → news_in w ≡ None → AreNews calls views → AreNews calls (set views by w)
  news_reviewed by w none s = news_set by w (λ heard has. no_some heard (sym none ∙ has)) s

  pub news_beside : (w : View) → news_in w ≡ None → AreNews calls views → AreNews calls (views ++ w ∷ [])
  news_beside w none s = news_pushed w (λ heard has. no_some heard (sym none ∙ has)) s
