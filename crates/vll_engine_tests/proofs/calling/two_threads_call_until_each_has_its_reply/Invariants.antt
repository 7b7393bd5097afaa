use Rattle.vll_sca.specs.Placing.{placing}
use Rattle.vll_queue.specs.Shown.{name_of}
use Rattle.vll_engine_tests.proofs.calling.two_threads_call_until_each_has_its_reply.Given as goal

abbrev pub ghosts-two_threads_bump : goal.ghosts-two_threads_bump
ghosts-two_threads_bump g a = record { engine = name_of placing a.opening }
