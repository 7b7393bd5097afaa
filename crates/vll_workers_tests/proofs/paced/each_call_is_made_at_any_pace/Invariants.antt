use Rattle.vll_sca.specs.Placing.{placing}
use Rattle.vll_queue.specs.Shown.{name_of}
use Rattle.vll_workers_tests.proofs.paced.each_call_is_made_at_any_pace.Given as goal

abbrev pub ghosts-counts : goal.ghosts-counts
ghosts-counts g a = record { engine = name_of placing a.opening }
