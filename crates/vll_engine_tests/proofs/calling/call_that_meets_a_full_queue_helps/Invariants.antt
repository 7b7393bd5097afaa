use Rattle.vll_sca.specs.Placing.{placing}
use Rattle.vll_queue.specs.Shown.{name_of}
use Rattle.vll_engine_tests.proofs.calling.call_that_meets_a_full_queue_helps.Given as goal

abbrev pub ghosts-helps_in_a_full_queue : goal.ghosts-helps_in_a_full_queue
ghosts-helps_in_a_full_queue g a = record { engine = name_of placing a.opening }
