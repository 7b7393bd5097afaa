use Rattle.vll_sca.specs.Placing.{placing}
use Rattle.vll_queue.specs.Shown.{name_of}
use Rattle.vll_workers_tests.proofs.runs.two_workers_execute_at_once.Given as goal

abbrev pub ghosts-meet : goal.ghosts-meet
ghosts-meet g a = record { engine = name_of placing a.opening }
