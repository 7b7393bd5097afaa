use Rattle.std.proofs.Common.{◌≡◌, ◌+◌, length, drop}
use Rattle.std.specs.Prelude.{sum_by}
use Rattle.vll_scenario.proofs.reading.setup.calls_in.Given as goal

abbrev pub invariant-loop-script : goal.invariant-loop-script
invariant-loop-script l = l.count + sum_by length (drop l.script-index l.scripts) ≡ sum_by length l.scripts
