use Rattle.std.proofs.Common.{rules}
use Rattle.vll_proc.proofs.run.value_at.Goals as goal

pub returns : goal.returns
returns c = search rules
