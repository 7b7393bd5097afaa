use Rattle.vll_sca.specs.Placing.{placing}
use Rattle.vll_queue.specs.Shown.{name_of}
use Rattle.vll_engine_tests.proofs.queueing.cap_is_busy_and_limit_is_spent.Given as goal

abbrev pub ghosts-refuses_by_cap_and_limit : goal.ghosts-refuses_by_cap_and_limit
ghosts-refuses_by_cap_and_limit g a = record { engine = name_of placing a.opening }
