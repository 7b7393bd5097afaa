use Rattle.vll_sca.specs.Placing.{placing}
use Rattle.vll_queue.specs.Shown.{name_of}
use Rattle.vll_engine_tests.proofs.holding.one_hold_finishes_looks_and_begins.Given as goal

abbrev pub ghosts-works_under_one_hold : goal.ghosts-works_under_one_hold
ghosts-works_under_one_hold g a = record { engine = name_of placing a.opening }
