use Rattle.vll_sca.specs.Placing.{placing}
use Rattle.vll_queue.specs.Shown.{name_of}
use Rattle.vll_engine_tests.proofs.calling.call_waits_for_a_pass_that_is_kept.Given as goal

abbrev pub ghosts-one_keeps_and_one_waits : goal.ghosts-one_keeps_and_one_waits
ghosts-one_keeps_and_one_waits g a = record { engine = name_of placing a.opening }
