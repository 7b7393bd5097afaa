use Rattle.std.proofs.Common.{length}
use Rattle.vll_fault_path.proofs.piece_test.+have_at_most.Given as goal

abbrev pub decreases-have_at_most : goal.decreases-have_at_most
decreases-have_at_most l = length l.scripts.now
