use Rattle.vll_sca.specs.Placing.{placing}
use Rattle.vll_queue.specs.Shown.{name_of}
use Rattle.vll_workers_tests.proofs.told.gate_is_told_of_each_call_once_outside_the_hold.Given as goal

abbrev pub ghosts-is_told_once : goal.ghosts-is_told_once
ghosts-is_told_once g a = record { engine = name_of placing a.opening }
