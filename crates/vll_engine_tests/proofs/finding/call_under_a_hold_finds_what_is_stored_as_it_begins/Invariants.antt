use Rattle.vll_sca.specs.Placing.{placing}
use Rattle.vll_queue.specs.Shown.{name_of}
use Rattle.vll_engine_tests.proofs.finding.call_under_a_hold_finds_what_is_stored_as_it_begins.Given as goal

abbrev pub ghosts-finds_under_a_hold : goal.ghosts-finds_under_a_hold
ghosts-finds_under_a_hold g a = record { engine = name_of placing a.opening }
