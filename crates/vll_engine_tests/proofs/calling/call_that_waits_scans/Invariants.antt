use Rattle.vll_sca.specs.Placing.{placing}
use Rattle.vll_queue.specs.Shown.{name_of}
use Rattle.vll_engine_tests.proofs.calling.call_that_waits_scans.Given as goal

abbrev pub ghosts-helps_by_a_scan : goal.ghosts-helps_by_a_scan
ghosts-helps_by_a_scan g a = record { engine = name_of placing a.opening }
