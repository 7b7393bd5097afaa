use Rattle.vll_sca.specs.Placing.{placing}
use Rattle.vll_queue.specs.Shown.{name_of}
use Rattle.vll_workers_tests.proofs.indirect.one_worker_aborts_no_call_as_moved.Given as goal

abbrev pub ghosts-none_is_moved : goal.ghosts-none_is_moved
ghosts-none_is_moved g a = record { engine = name_of placing a.opening }
