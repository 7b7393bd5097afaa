use Rattle.vll_sca.specs.Placing.{placing}
use Rattle.vll_queue.specs.Shown.{name_of}
use Rattle.vll_engine_tests.proofs.closing.close_hands_all_back_while_calls_are_left.Given as goal

abbrev pub ghosts-closes_once_nothing_is_left : goal.ghosts-closes_once_nothing_is_left
ghosts-closes_once_nothing_is_left g a = record { engine = name_of placing a.opening }
