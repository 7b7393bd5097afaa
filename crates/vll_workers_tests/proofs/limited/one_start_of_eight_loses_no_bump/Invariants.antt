use Rattle.vll_sca.specs.Placing.{placing}
use Rattle.vll_queue.specs.Shown.{name_of}
use Rattle.vll_workers_tests.proofs.limited.one_start_of_eight_loses_no_bump.Given as goal

abbrev pub ghosts-counts_with_one_start : goal.ghosts-counts_with_one_start
ghosts-counts_with_one_start g a = record { engine = name_of placing a.opening }
