use Rattle.std.proofs.Common.{All, subst, ◌∙◌}
use Rattle.std.proofs.lemmas.List.Elements.{All-tail}
use Rattle.vll_tokens.specs.Pool.{HasInHand}
use Rattle.vll_tokens.specs.Tokens.{IsOf}
use Rattle.vll_tokens.proofs.Hands.{given, one_held}
use Rattle.vll_tokens.proofs.worker.Worker.put_all.Goals as goal

pub put-requires-clause-held : goal.put-requires-clause-held
put-requires-clause-held g c =
    let hand = subst (HasInHand c.args.pool.now c.loop-token.self.pass) c.in-Some.ensures.steps.0 c.loop-token.invariant.0 in
    one_held c.args.pool.now c.loop-token.self.pass c.in-Some.token c.next.new.self.rest.items hand

pub loop-token-preserved : goal.loop-token-preserved
loop-token-preserved g c =
    let i = c.loop-token.invariant in
    let rest = c.in-Some.ensures.steps.0 in
    let hand = subst (HasInHand c.args.pool.now c.loop-token.self.pass) rest i.0 in (
      given c.args.pool.now c.loop-token.self.pass c.put.new.self.pass c.in-Some.token c.next.new.self.rest.items hand c.put.ensures.pass c.put.ensures.put,
      c.put.ensures.put.parts ∙ i.1,
      All-tail (IsOf g.T.Roster.tokens) c.in-Some.token c.next.new.self.rest.items (subst (All (IsOf g.T.Roster.tokens)) rest i.2),
      c.put.ensures.kept ∙ i.3,
    )
