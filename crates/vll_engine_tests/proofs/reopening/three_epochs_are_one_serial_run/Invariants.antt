use Rattle.vll_sca.specs.Placing.{placing}
use Rattle.vll_queue.specs.Shown.{name_of}
use Rattle.vll_engine_tests.proofs.reopening.three_epochs_are_one_serial_run.Given as goal

abbrev pub ghosts-ends_with : goal.ghosts-ends_with
ghosts-ends_with g a = record { engine = name_of placing a.opening }
