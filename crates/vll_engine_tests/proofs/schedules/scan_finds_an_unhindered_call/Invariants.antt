use Rattle.vll_sca.specs.Placing.{placing}
use Rattle.vll_queue.specs.Shown.{name_of}
use Rattle.vll_engine_tests.proofs.schedules.scan_finds_an_unhindered_call.Given as goal

abbrev pub ghosts-runs_past_the_front : goal.ghosts-runs_past_the_front
ghosts-runs_past_the_front g a = record { engine = name_of placing a.opening }
