use Rattle.vll_sca.specs.Placing.{placing}
use Rattle.vll_queue.specs.Shown.{name_of}
use Rattle.vll_engine_tests.proofs.closing.released_call_is_finished_behind_a_later_one.Given as goal

abbrev pub ghosts-is_finished_later : goal.ghosts-is_finished_later
ghosts-is_finished_later g a = record { engine = name_of placing a.opening }
