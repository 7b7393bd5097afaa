use Rattle.vll_sca.specs.Placing.{placing}
use Rattle.vll_queue.specs.Shown.{name_of}
use Rattle.vll_workers_tests.proofs.runs.run_is_spent_only_at_the_limit.Given as goal

abbrev pub ghosts-enters_up_to_the_limit : goal.ghosts-enters_up_to_the_limit
ghosts-enters_up_to_the_limit g a = record { engine = name_of placing a.opening }
