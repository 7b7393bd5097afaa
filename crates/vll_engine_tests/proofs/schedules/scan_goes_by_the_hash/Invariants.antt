use Rattle.vll_sca.specs.Placing.{placing}
use Rattle.vll_queue.specs.Shown.{name_of}
use Rattle.vll_engine_tests.proofs.schedules.scan_goes_by_the_hash.Given as goal

abbrev pub ghosts-scans_past_the_front : goal.ghosts-scans_past_the_front
ghosts-scans_past_the_front g a = record { engine = name_of placing a.opening }
