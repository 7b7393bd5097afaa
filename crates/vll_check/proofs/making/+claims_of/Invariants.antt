use Rattle.std.proofs.Common.{length}
use Rattle.vll_check.proofs.making.+claims_of.Given as goal

abbrev pub decreases-claims_of : goal.decreases-claims_of
decreases-claims_of l = length l.keys.now
