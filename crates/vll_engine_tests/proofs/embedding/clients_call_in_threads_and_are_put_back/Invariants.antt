use Rattle.vll_sca.specs.Placing.{placing}
use Rattle.vll_queue.specs.Shown.{name_of}
use Rattle.vll_engine_tests.proofs.embedding.clients_call_in_threads_and_are_put_back.Given as goal

abbrev pub ghosts-two_call_in_threads : goal.ghosts-two_call_in_threads
ghosts-two_call_in_threads g a = record { engine = name_of placing a.opening }
