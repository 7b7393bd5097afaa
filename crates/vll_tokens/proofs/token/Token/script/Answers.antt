use Rattle.std.proofs.Common.{rules}
use Rattle.vll_tokens.proofs.token.Token.script.Goals as goal

pub returns-clause-calls : goal.returns-clause-calls
returns-clause-calls c = search rules
