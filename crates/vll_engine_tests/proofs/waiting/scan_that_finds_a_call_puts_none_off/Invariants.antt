use Rattle.vll_sca.specs.Placing.{placing}
use Rattle.vll_queue.specs.Shown.{name_of}
use Rattle.vll_engine_tests.proofs.waiting.scan_that_finds_a_call_puts_none_off.Given as goal

abbrev pub ghosts-scans_twice_in_a_row : goal.ghosts-scans_twice_in_a_row
ghosts-scans_twice_in_a_row g a = record { engine = name_of placing a.opening }
