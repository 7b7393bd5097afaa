use Rattle.vll_sca.specs.Placing.{placing}
use Rattle.vll_queue.specs.Shown.{name_of}
use Rattle.vll_workers_tests.proofs.limited.calling_thread_works_beside_the_one_that_is_started.Given as goal

abbrev pub ghosts-runs_under : goal.ghosts-runs_under
ghosts-runs_under g a = record { engine = name_of placing a.opening }
