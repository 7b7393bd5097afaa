use Rattle.vll_sca.specs.Placing.{placing}
use Rattle.vll_queue.specs.Shown.{name_of}
use Rattle.vll_workers_tests.proofs.waited_for.gate_that_waits_gets_all_other_calls.Given as goal

abbrev pub ghosts-gets_all_others : goal.ghosts-gets_all_others
ghosts-gets_all_others g a = record { engine = name_of placing a.opening }
