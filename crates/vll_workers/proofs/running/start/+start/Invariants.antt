use Rattle.std.proofs.Common.{length}
use Rattle.vll_workers.proofs.running.start.+start.Given as goal

abbrev pub decreases-start : goal.decreases-start
decreases-start g a = length a.ready.desks.items
