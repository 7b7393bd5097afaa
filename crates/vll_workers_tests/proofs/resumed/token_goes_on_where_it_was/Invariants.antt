use Rattle.vll_sca.specs.Placing.{placing}
use Rattle.vll_queue.specs.Shown.{name_of}
use Rattle.vll_workers_tests.proofs.resumed.token_goes_on_where_it_was.Given as goal

abbrev pub ghosts-goes_on : goal.ghosts-goes_on
ghosts-goes_on g a = record { engine = name_of placing a.opening }
