use Rattle.std.proofs.Common.{◌<◌, length}
use Rattle.vll_engine.specs.declared.passes.TheConstants.{MOST_PASSES}
use Rattle.vll_simulation.proofs.under.scans_at_last.Given as goal

abbrev pub invariant-loop-times : goal.invariant-loop-times
invariant-loop-times g l = length l.passes < MOST_PASSES
