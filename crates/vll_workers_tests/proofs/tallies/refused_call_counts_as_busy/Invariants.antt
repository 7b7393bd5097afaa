use Rattle.vll_sca.specs.Placing.{placing}
use Rattle.vll_queue.specs.Shown.{name_of}
use Rattle.vll_workers_tests.proofs.tallies.refused_call_counts_as_busy.Given as goal

abbrev pub ghosts-is_refused_once : goal.ghosts-is_refused_once
ghosts-is_refused_once g a = record { engine = name_of placing a.opening }
