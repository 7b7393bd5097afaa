use Rattle.std.proofs.Common.{length}
use Rattle.vll_proc.proofs.syntax.+source_of.Given as goal

abbrev pub decreases-source_of : goal.decreases-source_of
decreases-source_of l = length l.keys.now
