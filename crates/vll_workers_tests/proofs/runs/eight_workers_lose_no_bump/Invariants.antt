use Rattle.vll_sca.specs.Placing.{placing}
use Rattle.vll_queue.specs.Shown.{name_of}
use Rattle.vll_workers_tests.proofs.runs.eight_workers_lose_no_bump.Given as goal

abbrev pub ghosts-counts : goal.ghosts-counts
ghosts-counts g a = record { engine = name_of placing a.opening }
