use Rattle.std.proofs.Common.{length}
use Rattle.vll_workers.proofs.work.Work.tell_all.Given as goal

abbrev pub decreases-loop-ticket : goal.decreases-loop-ticket
decreases-loop-ticket g l = length l.finished
