use Rattle.std.proofs.Common.{List, ◌≡◌, ◌∷◌, ap, arith, length}
use Rattle.vll_workers.proofs.AtWork.{popped, set_aside}
use Rattle.vll_tokens.specs.Shown.{TokenShown}
use Rattle.vll_workers.proofs.work.Work.keep_in_hand.Goals as goal

pub loop-token-preserved : goal.loop-token-preserved
loop-token-preserved g c =
    let i = c.loop-token.invariant in
    let a : length c.loop-token.taken.untried ≡ length (c.in-Some.token ∷ c.pop.new.self) = ap {A = List TokenShown} length c.in-Some.ensures.some in
    let b : length c.push.new.self ≡ length (c.in-Some.token ∷ c.loop-token.taken.tried) = ap {A = List TokenShown} length c.push.ensures in
    let few = i.1 in (
      set_aside g.T.Roster.tokens c.args.self.pool.now c.args.worker.now c.pop.new.self c.loop-token.taken.tried c.push.new.self c.in-Some.token
          (popped g.T.Roster.tokens c.args.self.pool.now c.args.worker.now c.loop-token.taken.untried c.pop.new.self c.loop-token.taken.tried c.in-Some.token i.0 c.in-Some.ensures.some)
          c.push.ensures,
      omega (arith, a, b, few),
    )
