use Rattle.vll_sca.specs.Placing.{placing}
use Rattle.vll_queue.specs.Shown.{name_of}
use Rattle.vll_workers_tests.proofs.runs.no_tokens_is_well.Given as goal

abbrev pub ghosts-has_none : goal.ghosts-has_none
ghosts-has_none g a = record { engine = name_of placing a.opening }
