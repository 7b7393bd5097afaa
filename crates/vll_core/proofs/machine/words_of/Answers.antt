use Rattle.std.proofs.Common.{ap, ◌∙◌, ◌++◌, ◌∷◌, [], sym, arith, get_or}
use Rattle.vll_core.proofs.Common.{take_all}
use Rattle.vll_core.proofs.FirstWords.{laid, laid_more, first_words}
use Rattle.vll_core.proofs.machine.words_of.Goals as goal

pub loop-value-preserved : goal.loop-value-preserved
loop-value-preserved c = record {
  items =
      c.push_reserved-in-loop-value-2.ensures.items
      ∙ ap (λ ws. ws ++ 0 ∷ []) (c.push_reserved-in-loop-value.ensures.items ∙ ap (λ ws. ws ++ get_or c.args.records.now c.loop-value.value-index 0 ∷ []) c.loop-value.invariant.items)
      ∙ ap (λ ws. 0 ∷ ws) (sym (laid_more c.args.records.now c.loop-value.value-index c.loop-value-test.true));
  long = omega arith;
  room = omega arith;
}

pub returns : goal.returns
returns c = first_words c.args.records.now c.loop-value.words.items (c.loop-value.invariant.items ∙ ap (λ vs. 0 ∷ laid vs) (take_all c.loop-value.value-index c.args.records.now c.loop-value-test.false))
