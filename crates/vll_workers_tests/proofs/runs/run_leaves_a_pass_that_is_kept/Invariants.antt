use Rattle.vll_sca.specs.Placing.{placing}
use Rattle.vll_queue.specs.Shown.{name_of}
use Rattle.vll_workers_tests.proofs.runs.run_leaves_a_pass_that_is_kept.Given as goal

abbrev pub ghosts-leaves_a_kept_pass : goal.ghosts-leaves_a_kept_pass
ghosts-leaves_a_kept_pass g a = record { engine = name_of placing a.opening }
