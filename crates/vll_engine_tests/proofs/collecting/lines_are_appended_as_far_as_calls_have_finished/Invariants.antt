use Rattle.vll_sca.specs.Placing.{placing}
use Rattle.vll_queue.specs.Shown.{name_of}
use Rattle.vll_engine_tests.proofs.collecting.lines_are_appended_as_far_as_calls_have_finished.Given as goal

abbrev pub ghosts-collects_what_has_finished : goal.ghosts-collects_what_has_finished
ghosts-collects_what_has_finished g a = record { engine = name_of placing a.opening }
