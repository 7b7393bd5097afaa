use Rattle.std.proofs.Common.{rules}
use Rattle.vll_engine.proofs.clients.Clients.pop.Goals as goal

pub returns-clause-last : goal.returns-clause-last
returns-clause-last g c = search rules
