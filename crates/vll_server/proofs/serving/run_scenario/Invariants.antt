-- The name is that of the opening.
use Rattle.vll_sca.specs.Placing.{placing}
use Rattle.vll_queue.specs.Shown.{name_of}
use Rattle.vll_server.proofs.serving.run_scenario.Given as goal

abbrev pub ghosts-run_scripts : goal.ghosts-run_scripts
ghosts-run_scripts g a = record { engine = name_of placing a.opening }
