use Rattle.vll_sca.specs.Placing.{placing}
use Rattle.vll_queue.specs.Shown.{name_of}
use Rattle.vll_engine_tests.proofs.collecting.lines_stop_before_a_call_that_runs.Given as goal

abbrev pub ghosts-stops_before_a_call_that_runs : goal.ghosts-stops_before_a_call_that_runs
ghosts-stops_before_a_call_that_runs g a = record { engine = name_of placing a.opening }
