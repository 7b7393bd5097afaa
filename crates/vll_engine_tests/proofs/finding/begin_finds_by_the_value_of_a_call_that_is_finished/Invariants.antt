use Rattle.vll_sca.specs.Placing.{placing}
use Rattle.vll_queue.specs.Shown.{name_of}
use Rattle.vll_engine_tests.proofs.finding.begin_finds_by_the_value_of_a_call_that_is_finished.Given as goal

abbrev pub ghosts-finds_the_bumped_value : goal.ghosts-finds_the_bumped_value
ghosts-finds_the_bumped_value g a = record { engine = name_of placing a.opening }
