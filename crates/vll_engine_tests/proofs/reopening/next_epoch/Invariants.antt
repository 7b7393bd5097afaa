use Rattle.vll_sca.specs.Placing.{placing}
use Rattle.vll_queue.specs.Shown.{name_of}
use Rattle.vll_engine_tests.proofs.reopening.next_epoch.Given as goal

abbrev pub ghosts-epoch : goal.ghosts-epoch
ghosts-epoch g a = record { engine = name_of placing a.opening }
