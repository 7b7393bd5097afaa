use Rattle.std.proofs.Common.{rules}
use Rattle.vll_proc.proofs.run.sum.Goals as goal

pub returns : goal.returns
returns c = search rules
