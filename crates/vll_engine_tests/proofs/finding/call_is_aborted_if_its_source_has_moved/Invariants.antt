use Rattle.vll_sca.specs.Placing.{placing}
use Rattle.vll_queue.specs.Shown.{name_of}
use Rattle.vll_engine_tests.proofs.finding.call_is_aborted_if_its_source_has_moved.Given as goal

abbrev pub ghosts-moved_source_aborts : goal.ghosts-moved_source_aborts
ghosts-moved_source_aborts g a = record { engine = name_of placing a.opening }
