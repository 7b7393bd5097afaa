use Rattle.std.proofs.Common.{rules}
use Rattle.vll_proc.proofs.frame.Frame.new.Goals as goal

pub returns : goal.returns
returns c = search rules
