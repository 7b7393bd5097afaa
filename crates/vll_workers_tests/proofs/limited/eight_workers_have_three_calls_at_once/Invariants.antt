use Rattle.vll_sca.specs.Placing.{placing}
use Rattle.vll_queue.specs.Shown.{name_of}
use Rattle.vll_workers_tests.proofs.limited.eight_workers_have_three_calls_at_once.Given as goal

abbrev pub ghosts-runs_with_eight : goal.ghosts-runs_with_eight
ghosts-runs_with_eight g a = record { engine = name_of placing a.opening }
