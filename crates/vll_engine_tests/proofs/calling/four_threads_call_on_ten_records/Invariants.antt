use Rattle.vll_sca.specs.Placing.{placing}
use Rattle.vll_queue.specs.Shown.{name_of}
use Rattle.vll_engine_tests.proofs.calling.four_threads_call_on_ten_records.Given as goal

abbrev pub ghosts-four_bump_the_hot : goal.ghosts-four_bump_the_hot
ghosts-four_bump_the_hot g a = record { engine = name_of placing a.opening }
