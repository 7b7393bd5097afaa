use Rattle.std.proofs.Common.{rules}
use Rattle.vll_tokens.proofs.token.Token.client.Goals as goal

pub returns : goal.returns
returns c = search rules
