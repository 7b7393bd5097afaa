use Rattle.vll_tokens.proofs.Fair.{joins}
use Rattle.vll_tokens.proofs.pool.Pool.absorb.Goals as goal

pub absorb-requires-clause-rule : goal.absorb-requires-clause-rule
absorb-requires-clause-rule g c = joins g.T.Roster.tokens _ _ _ _
