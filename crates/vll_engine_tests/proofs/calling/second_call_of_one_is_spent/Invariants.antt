use Rattle.vll_sca.specs.Placing.{placing}
use Rattle.vll_queue.specs.Shown.{name_of}
use Rattle.vll_engine_tests.proofs.calling.second_call_of_one_is_spent.Given as goal

abbrev pub ghosts-is_spent : goal.ghosts-is_spent
ghosts-is_spent g a = record { engine = name_of placing a.opening }
