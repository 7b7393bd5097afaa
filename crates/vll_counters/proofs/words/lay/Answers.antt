use Rattle.std.proofs.Common.{◌≡◌, ℕ, List, refl, ap, ◌∙◌, ◌++◌, ◌∷◌, [], sym, arith, get_or}
use Rattle.vll_counters.proofs.Common.{take_all, laid, laid_more, first_words, record_words}
use Rattle.vll_counters.proofs.words.lay.Goals as goal

pub loop-value-preserved : goal.loop-value-preserved
loop-value-preserved c = record {
  items =
      c.push_reserved-in-loop-value-2.ensures.items
      ∙ ap (λ ws. ws ++ 0 ∷ []) (c.push_reserved-in-loop-value.ensures.items ∙ ap (λ ws. ws ++ get_or c.args.records.now c.loop-value.value-index 0 ∷ []) c.loop-value.invariant.items)
      ∙ ap (λ ws. 0 ∷ ws) (sym (laid_more c.args.records.now c.loop-value.value-index c.loop-value-test.true));
  long = omega arith;
  room = c.push_reserved-in-loop-value-2.ensures.capacity ∙ c.push_reserved-in-loop-value.ensures.capacity ∙ c.loop-value.invariant.room;
}

-- the list of the specification is the one that is laid
same_laid : (values : List ℕ) → laid values ≡ record_words values
same_laid [] = refl
same_laid (v ∷ vs) = ap (λ ws. v ∷ 0 ∷ ws) (same_laid vs)

pub returns-clause-list : goal.returns-clause-list
returns-clause-list c =
    c.loop-value.invariant.items ∙ ap (λ vs. 0 ∷ laid vs) (take_all c.loop-value.value-index c.args.records.now c.loop-value-test.false) ∙ ap (λ ws. 0 ∷ ws) (same_laid c.args.records.now)

pub returns-clause-words : goal.returns-clause-words
returns-clause-words c =
    let first = first_words c.args.records.now c.loop-value.words.items (c.loop-value.invariant.items ∙ ap (λ vs. 0 ∷ laid vs) (take_all c.loop-value.value-index c.args.records.now c.loop-value-test.false)) in
    record { long = first.long; turn = first.turn; values = first.values; pairs = first.pairs }
