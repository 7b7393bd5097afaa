use Rattle.std.proofs.Common.{◌≡◌, ℕ, zero, suc, ◌+◌, ◌≤◌, List, [], ◌∷◌, ◌++◌, take, sym, ap, ◌∙◌, subst, add-one}
use Rattle.vll_counters.proofs.Common.{slots_items, slots_len}
use mathlib.Core.Option.{some, some-injective, some-ne-none}
use lib.ListN.{get_elem?}
use Rattle.vll_counters.proofs.words.gathered.Goals as goal

take_at : (l : List ℕ) (i x : ℕ) → get_elem? l i ≡ some x → take i l ++ x ∷ [] ≡ take (suc i) l
take_at [] i x e = absurd (some-ne-none x (sym e))
take_at (y ∷ ys) zero x e = λ k. sym (some-injective y x e) k ∷ []
take_at (y ∷ ys) (suc i) x e = λ k. y ∷ take_at ys i x e k

pub loop-i-preserved : goal.loop-i-preserved
loop-i-preserved c =
    let xs = slots_items c.args.closed.now.words in record {
      items =
          c.push_reserved.ensures.items ∙ ap (λ (ys : List ℕ). ys ++ c.word.result ∷ []) c.loop-i.invariant.items
          ∙ take_at xs c.loop-i.i c.word.result c.word.ensures ∙ ap (λ n. take n xs) (sym (add-one c.loop-i.i));
      long = c.push_reserved.ensures.len ∙ ap (λ (n : ℕ). n + 1) c.loop-i.invariant.long;
      room = subst (λ (n : ℕ). slots_len c.args.closed.now.words ≤ n) (sym c.push_reserved.ensures.capacity) c.loop-i.invariant.room;
    }
