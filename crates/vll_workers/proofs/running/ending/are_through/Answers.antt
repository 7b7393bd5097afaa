use Rattle.std.proofs.Common.{◌∙◌, sym, subst, ap, length}
use Rattle.std.specs.Prelude.{All}
use Rattle.std.proofs.lemmas.List.{take_all}
use Rattle.std.proofs.lemmas.List.Elements.{All-more}
use Rattle.vll_tokens.specs.Tokens.{IsThrough}
use Rattle.vll_workers.proofs.running.ending.are_through.Goals as goal

pub loop-token-preserved : goal.loop-token-preserved
loop-token-preserved c =
    let token = c.token-item.result in
    let through : IsThrough token = sym c.next.ensures.count ∙ c.if-next-script.false ∙ ap length c.script.ensures.calls in
    All-more IsThrough c.args.tokens.now c.loop-token.token-index token c.loop-token-test.true c.loop-token.invariant
    (subst IsThrough c.token-item.is through)

pub returns : goal.returns
returns c = subst (All IsThrough) (take_all c.loop-token.token-index c.args.tokens.now c.loop-token-test.false) c.loop-token.invariant
