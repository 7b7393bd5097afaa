use Rattle.vll_sca.specs.Placing.{placing}
use Rattle.vll_queue.specs.Shown.{name_of}
use Rattle.vll_bench.proofs.ways.time_by_workers.Given as goal

abbrev pub ghosts-time_of : goal.ghosts-time_of
ghosts-time_of g a = record { engine = name_of placing a.opening }
