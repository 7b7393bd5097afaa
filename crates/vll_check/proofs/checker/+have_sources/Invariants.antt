use Rattle.std.proofs.Common.{length}
use Rattle.vll_check.proofs.checker.+have_sources.Given as goal

abbrev pub decreases-have_sources : goal.decreases-have_sources
decreases-have_sources l = length l.keys.now
