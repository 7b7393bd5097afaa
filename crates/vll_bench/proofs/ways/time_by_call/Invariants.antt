use Rattle.vll_sca.specs.Placing.{placing}
use Rattle.vll_queue.specs.Shown.{name_of}
use Rattle.vll_bench.proofs.ways.time_by_call.Given as goal

abbrev pub ghosts-time_calls : goal.ghosts-time_calls
ghosts-time_calls g a = record { engine = name_of placing a.opening }
