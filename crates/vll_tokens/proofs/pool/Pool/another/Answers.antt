use Rattle.vll_tokens.proofs.Fair.{hires}
use Rattle.vll_tokens.proofs.pool.Pool.another.Goals as goal

pub another-requires-clause-rule : goal.another-requires-clause-rule
another-requires-clause-rule g c = hires g.T.Roster.tokens _ _ c.requires.parts
