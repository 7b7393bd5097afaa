use Rattle.std.proofs.Common.{rules}
use Rattle.vll_tokens.proofs.worker.Worker.put.Goals as goal

pub returns-clause-put : goal.returns-clause-put
returns-clause-put g c = search rules
