use Rattle.vll_sca.specs.Placing.{placing}
use Rattle.vll_queue.specs.Shown.{name_of}
use Rattle.vll_workers_tests.proofs.limited.one_start_never_has_three_calls_at_once.Given as goal

abbrev pub ghosts-runs_under : goal.ghosts-runs_under
ghosts-runs_under g a = record { engine = name_of placing a.opening }
