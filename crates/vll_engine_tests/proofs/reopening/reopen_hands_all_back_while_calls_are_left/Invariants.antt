use Rattle.vll_sca.specs.Placing.{placing}
use Rattle.vll_queue.specs.Shown.{name_of}
use Rattle.vll_engine_tests.proofs.reopening.reopen_hands_all_back_while_calls_are_left.Given as goal

abbrev pub ghosts-goes_on_once_nothing_is_left : goal.ghosts-goes_on_once_nothing_is_left
ghosts-goes_on_once_nothing_is_left g a = record { engine = name_of placing a.opening }

abbrev pub ghosts-begins_anew : goal.ghosts-begins_anew
ghosts-begins_anew g a = record { engine = name_of placing a.opening }
