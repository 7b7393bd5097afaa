use Rattle.std.proofs.Common.{◌≡◌, drop}
use Rattle.vll_scenario.specs.Setup.{lists_of}
use Rattle.vll_scenario.specs.Scenario.{each_given, script_made, scripts_made}
use Rattle.vll_scenario.proofs.Given.{after_those}
use Rattle.vll_scenario.proofs.reading.setup.scripts_of.Given as goal

abbrev pub invariant-loop-client : goal.invariant-loop-client
invariant-loop-client l =
    after_those (lists_of l.made.items) (each_given (script_made l.library) l.client (drop l.client l.scripts)) ≡ scripts_made l.library l.scripts
