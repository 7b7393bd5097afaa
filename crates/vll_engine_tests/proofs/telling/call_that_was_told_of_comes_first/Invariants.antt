use Rattle.vll_sca.specs.Placing.{placing}
use Rattle.vll_queue.specs.Shown.{name_of}
use Rattle.vll_engine_tests.proofs.telling.call_that_was_told_of_comes_first.Given as goal

abbrev pub ghosts-one_tells_and_one_hears : goal.ghosts-one_tells_and_one_hears
ghosts-one_tells_and_one_hears g a = record { engine = name_of placing a.opening }
