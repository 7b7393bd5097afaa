use Rattle.vll_tokens.proofs.Fair.{takes}
use Rattle.vll_tokens.proofs.pool.Pool.take.Goals as goal

pub pop_as-requires-clause-rule : goal.pop_as-requires-clause-rule
pop_as-requires-clause-rule g c = (takes g.T.Roster.tokens _ _ c.requires.part, λ items views fair at. tt)
