use Rattle.vll_sca.specs.Placing.{placing}
use Rattle.vll_queue.specs.Shown.{name_of}
use Rattle.vll_workers_tests.proofs.staying.worker_stays_after_a_round_without_a_token.Given as goal

abbrev pub ghosts-stays_after_an_empty_round : goal.ghosts-stays_after_an_empty_round
ghosts-stays_after_an_empty_round g a = record { engine = name_of placing a.opening }
