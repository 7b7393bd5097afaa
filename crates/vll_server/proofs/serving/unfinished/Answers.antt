use Rattle.std.proofs.Common.{rules}
use Rattle.vll_server.proofs.serving.unfinished.Goals as goal

pub returns : goal.returns
returns g c = search rules
