use Rattle.std.proofs.Common.{◌++◌, ◌∙◌, subst}
use Rattle.vll_workers.specs.Private.Work.{IsAtWork}
use Rattle.vll_workers.proofs.AtWork.{held, one_put, own_of, popped}
use Rattle.vll_workers.proofs.work.Work.put_back.Goals as goal

pub put-requires-clause-held : goal.put-requires-clause-held
put-requires-clause-held g c =
    held g.T.Roster.tokens c.args.self.pool.now c.loop-token.worker (c.pop.new.self ++ c.loop-token.taken.tried) c.in-Some.token
    (popped g.T.Roster.tokens c.args.self.pool.now c.loop-token.worker c.loop-token.taken.untried c.pop.new.self c.loop-token.taken.tried c.in-Some.token c.loop-token.invariant.0 c.in-Some.ensures.some)

pub loop-token-preserved : goal.loop-token-preserved
loop-token-preserved g c = (
  one_put g.T.Roster.tokens c.args.self.pool.now c.loop-token.worker c.put.new.self (c.pop.new.self ++ c.loop-token.taken.tried) c.in-Some.token
      (popped g.T.Roster.tokens c.args.self.pool.now c.loop-token.worker c.loop-token.taken.untried c.pop.new.self c.loop-token.taken.tried c.in-Some.token c.loop-token.invariant.0 c.in-Some.ensures.some)
      c.put.ensures.kept c.put.ensures.pass c.put.ensures.put,
  c.put.ensures.put.parts ∙ c.loop-token.invariant.1,
)

pub put-requires-in-Some-pop-clause-held : goal.put-requires-in-Some-pop-clause-held
put-requires-in-Some-pop-clause-held g c =
    held g.T.Roster.tokens c.args.self.pool.now c.loop-token-2.worker c.pop-in-loop-token-2.new.self c.in-Some-pop.token
    (subst (IsAtWork g.T.Roster.tokens c.args.self.pool.now c.loop-token-2.worker) c.in-Some-pop.ensures.some c.loop-token-2.invariant.0)

pub loop-token-2-preserved : goal.loop-token-2-preserved
loop-token-2-preserved g c = (
  one_put g.T.Roster.tokens c.args.self.pool.now c.loop-token-2.worker c.put-in-Some-pop.new.self c.pop-in-loop-token-2.new.self c.in-Some-pop.token
      (subst (IsAtWork g.T.Roster.tokens c.args.self.pool.now c.loop-token-2.worker) c.in-Some-pop.ensures.some c.loop-token-2.invariant.0)
      c.put-in-Some-pop.ensures.kept c.put-in-Some-pop.ensures.pass c.put-in-Some-pop.ensures.put,
  c.put-in-Some-pop.ensures.put.parts ∙ c.loop-token-2.invariant.1,
  c.loop-token-2.invariant.2,
)

pub put-requires-in-Some-pop-clause-own : goal.put-requires-in-Some-pop-clause-own
put-requires-in-Some-pop-clause-own g c =
    own_of g.T.Roster.tokens c.args.self.pool.now c.loop-token-2.worker c.pop-in-loop-token-2.new.self c.in-Some-pop.token
    (subst (IsAtWork g.T.Roster.tokens c.args.self.pool.now c.loop-token-2.worker) c.in-Some-pop.ensures.some c.loop-token-2.invariant.0)
