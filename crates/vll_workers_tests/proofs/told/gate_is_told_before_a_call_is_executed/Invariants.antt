use Rattle.vll_sca.specs.Placing.{placing}
use Rattle.vll_queue.specs.Shown.{name_of}
use Rattle.vll_workers_tests.proofs.told.gate_is_told_before_a_call_is_executed.Given as goal

abbrev pub ghosts-finds_the_value_before : goal.ghosts-finds_the_value_before
ghosts-finds_the_value_before g a = record { engine = name_of placing a.opening }
