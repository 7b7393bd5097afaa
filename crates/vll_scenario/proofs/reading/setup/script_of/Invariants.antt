use Rattle.std.proofs.Common.{◌≡◌, drop}
use Rattle.vll_scenario.specs.Scenario.{each_given, call_at, script_made}
use Rattle.vll_scenario.proofs.Given.{after_those}
use Rattle.vll_scenario.proofs.reading.setup.script_of.Given as goal

abbrev pub invariant-loop-index : goal.invariant-loop-index
invariant-loop-index l =
    after_those l.calls.items (each_given (call_at l.library l.client) l.index (drop l.index l.script)) ≡ script_made l.library l.client l.script
