use Rattle.std.proofs.Common.{◌++◌, List, All, subst, ap, ◌∙◌}
use Rattle.std.proofs.lemmas.List.Elements.{All-tail}
use Rattle.vll_tokens.specs.declared.pool.Hand.{Hand}
use Rattle.vll_tokens.specs.Pool.{HasInHand}
use Rattle.vll_tokens.specs.Settled.{IsSettled}
use Rattle.vll_tokens.specs.Shown.{TokenShown}
use Rattle.vll_tokens.specs.Tokens.{IsOf}
use Rattle.vll_tokens.proofs.Hands.{more_held, put_by}
use Rattle.vll_tokens.proofs.worker.Worker.gather.Goals as goal

pub keep-requires-clause-held : goal.keep-requires-clause-held
keep-requires-clause-held g c =
    let i = c.loop-token.invariant in
    let hand = subst (λ (rest : List TokenShown). HasInHand c.args.pool.now c.loop-token.self.pass (rest ++ c.loop-token.self.kept)) c.in-Some.ensures.steps.0 i.0 in
    more_held c.args.pool.now c.loop-token.self.pass c.in-Some.token c.next.new.self.rest.items c.loop-token.self.kept hand

pub loop-token-preserved : goal.loop-token-preserved
loop-token-preserved g c =
    let i = c.loop-token.invariant in
    let rest = c.in-Some.ensures.steps.0 in
    let hand = subst (λ (rest : List TokenShown). HasInHand c.args.pool.now c.loop-token.self.pass (rest ++ c.loop-token.self.kept)) rest i.0 in (
      put_by c.args.pool.now c.loop-token.self.pass c.keep.new.self.pass c.in-Some.token c.next.new.self.rest.items c.loop-token.self.kept c.keep.new.self.kept hand
          c.keep.ensures.pass c.keep.ensures.view c.keep.ensures.kept,
      ap (λ (v : Hand). v.parts) c.keep.ensures.view ∙ i.1,
      All-tail (IsOf g.T.Roster.tokens) c.in-Some.token c.next.new.self.rest.items (subst (All (IsOf g.T.Roster.tokens)) rest i.2),
      All-tail (IsSettled g.T.Roster.limit) c.in-Some.token c.next.new.self.rest.items (subst (All (IsSettled g.T.Roster.limit)) rest i.3),
    )
