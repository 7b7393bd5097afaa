use Rattle.std.proofs.Common.{rules}
use Rattle.vll_server.proofs.serving.close.Goals as goal

pub returns-in-Err-clause-left : goal.returns-in-Err-clause-left
returns-in-Err-clause-left g c = search rules
