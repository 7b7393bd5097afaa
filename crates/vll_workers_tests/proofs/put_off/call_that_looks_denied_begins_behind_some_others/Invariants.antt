use Rattle.vll_sca.specs.Placing.{placing}
use Rattle.vll_queue.specs.Shown.{name_of}
use Rattle.vll_workers_tests.proofs.put_off.call_that_looks_denied_begins_behind_some_others.Given as goal

abbrev pub ghosts-begins_what_looks_denied : goal.ghosts-begins_what_looks_denied
ghosts-begins_what_looks_denied g a = record { engine = name_of placing a.opening }
