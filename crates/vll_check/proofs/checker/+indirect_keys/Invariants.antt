use Rattle.std.proofs.Common.{length}
use Rattle.vll_check.proofs.checker.+indirect_keys.Given as goal

abbrev pub decreases-indirect_keys : goal.decreases-indirect_keys
decreases-indirect_keys l = length l.keys.now
