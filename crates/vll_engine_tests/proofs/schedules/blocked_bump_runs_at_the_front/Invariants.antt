use Rattle.vll_sca.specs.Placing.{placing}
use Rattle.vll_queue.specs.Shown.{name_of}
use Rattle.vll_engine_tests.proofs.schedules.blocked_bump_runs_at_the_front.Given as goal

abbrev pub ghosts-runs_at_the_front : goal.ghosts-runs_at_the_front
ghosts-runs_at_the_front g a = record { engine = name_of placing a.opening }
