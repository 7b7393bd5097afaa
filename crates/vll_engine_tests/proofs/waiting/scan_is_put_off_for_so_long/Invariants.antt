use Rattle.vll_sca.specs.Placing.{placing}
use Rattle.vll_queue.specs.Shown.{name_of}
use Rattle.vll_engine_tests.proofs.waiting.scan_is_put_off_for_so_long.Given as goal

abbrev pub ghosts-scans_after_some_are_put_off : goal.ghosts-scans_after_some_are_put_off
ghosts-scans_after_some_are_put_off g a = record { engine = name_of placing a.opening }
