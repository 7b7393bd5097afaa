use Rattle.std.proofs.Common.{◌+◌, ◌*◌}
use Rattle.vll_bench.proofs.threads.+threads.Given as goal

abbrev pub decreases-join+arg3 : goal.decreases-join+arg3
decreases-join+arg3 g l = 2 * l.others + 1

abbrev pub decreases-in_threads : goal.decreases-in_threads
decreases-in_threads g l = 2 * l.threads
