-- The claims whose locks are not taken yet.
use Rattle.std.proofs.Common.{length, ◌-◌}
use Rattle.vll_bench.proofs.table.+make_from.Given as goal

abbrev pub decreases-make_from : goal.decreases-make_from
decreases-make_from g l = length l.call.now.claims - l.cell
