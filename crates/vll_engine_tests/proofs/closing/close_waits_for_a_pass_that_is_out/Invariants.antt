use Rattle.vll_sca.specs.Placing.{placing}
use Rattle.vll_queue.specs.Shown.{name_of}
use Rattle.vll_engine_tests.proofs.closing.close_waits_for_a_pass_that_is_out.Given as goal

abbrev pub ghosts-closes_once_the_pass_is_spent : goal.ghosts-closes_once_the_pass_is_spent
ghosts-closes_once_the_pass_is_spent g a = record { engine = name_of placing a.opening }
