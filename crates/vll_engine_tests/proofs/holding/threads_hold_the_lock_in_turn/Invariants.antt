use Rattle.vll_sca.specs.Placing.{placing}
use Rattle.vll_queue.specs.Shown.{name_of}
use Rattle.vll_engine_tests.proofs.holding.threads_hold_the_lock_in_turn.Given as goal

abbrev pub ghosts-bumps_by_two_threads : goal.ghosts-bumps_by_two_threads
ghosts-bumps_by_two_threads g a = record { engine = name_of placing a.opening }
