use Rattle.std.proofs.Common.{rules}
use Rattle.vll_server.proofs.serving.run_fault.Goals as goal

pub returns : goal.returns
returns c = search rules
