use Rattle.std.proofs.Common.{rules}
use Rattle.vll_tokens.proofs.Fair.{begins}
use Rattle.vll_tokens.proofs.pool.Pool.new.Goals as goal

pub ruled-requires-clause-rule : goal.ruled-requires-clause-rule
ruled-requires-clause-rule g c = begins g.T.Roster.tokens

pub invariant_of-result : goal.invariant_of-result
invariant_of-result g c = search rules
