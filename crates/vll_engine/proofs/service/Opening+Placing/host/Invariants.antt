-- The name is that of the opening.
use Rattle.vll_queue.specs.Shown.{name_of}
use Rattle.vll_sca.specs.Placing.{placing}
use Rattle.vll_engine.proofs.service.Opening+Placing.host.Given as goal

abbrev pub ghosts-host_by : goal.ghosts-host_by
ghosts-host_by g a = record { engine = name_of placing a.opening }
