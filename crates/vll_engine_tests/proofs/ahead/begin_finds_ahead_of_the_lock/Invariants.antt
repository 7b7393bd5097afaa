use Rattle.vll_sca.specs.Placing.{placing}
use Rattle.vll_queue.specs.Shown.{name_of}
use Rattle.vll_engine_tests.proofs.ahead.begin_finds_ahead_of_the_lock.Given as goal

abbrev pub ghosts-finds_beside_a_hold : goal.ghosts-finds_beside_a_hold
ghosts-finds_beside_a_hold g a = record { engine = name_of placing a.opening }
