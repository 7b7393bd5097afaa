use Rattle.vll_sca.specs.Placing.{placing}
use Rattle.vll_queue.specs.Shown.{name_of}
use Rattle.vll_workers_tests.proofs.put_off.run_whose_queue_is_full_finds_what_may_run.Given as goal

abbrev pub ghosts-finds_what_may_run : goal.ghosts-finds_what_may_run
ghosts-finds_what_may_run g a = record { engine = name_of placing a.opening }
