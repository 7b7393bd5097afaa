use Rattle.std.proofs.Common.{rules}
use Rattle.vll_engine.proofs.clients.Clients.are_all.Goals as goal

pub returns : goal.returns
returns g c = search rules
