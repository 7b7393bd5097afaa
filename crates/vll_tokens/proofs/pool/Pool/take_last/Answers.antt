use Rattle.std.proofs.Common.{arith}
use Rattle.vll_tokens.proofs.Fair.{learns_all, takes}
use Rattle.vll_tokens.proofs.pool.Pool.take_last.Goals as goal

pub pop_as-requires-clause-rule : goal.pop_as-requires-clause-rule
pop_as-requires-clause-rule g c =
    (takes g.T.Roster.tokens _ _ (let p = c.requires.parts in omega (arith, p)), learns_all g.T.Roster.tokens _ _ c.requires.parts)
