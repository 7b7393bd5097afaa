use Rattle.vll_sca.specs.Placing.{placing}
use Rattle.vll_queue.specs.Shown.{name_of}
use Rattle.vll_workers_tests.proofs.tallies.tally_by.Given as goal

abbrev pub ghosts-tally_of_calls : goal.ghosts-tally_of_calls
ghosts-tally_of_calls g a = record { engine = name_of placing a.opening }
