use Rattle.vll_tokens.proofs.Fair.{few}
use Rattle.vll_tokens.proofs.pool.Pool.learn_few.Goals as goal

pub learn_as-requires-clause-rule : goal.learn_as-requires-clause-rule
learn_as-requires-clause-rule g c = few g.T.Roster.tokens _ _
