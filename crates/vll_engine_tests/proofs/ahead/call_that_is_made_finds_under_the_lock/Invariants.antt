use Rattle.vll_sca.specs.Placing.{placing}
use Rattle.vll_queue.specs.Shown.{name_of}
use Rattle.vll_engine_tests.proofs.ahead.call_that_is_made_finds_under_the_lock.Given as goal

abbrev pub ghosts-makes_behind_a_hold : goal.ghosts-makes_behind_a_hold
ghosts-makes_behind_a_hold g a = record { engine = name_of placing a.opening }
