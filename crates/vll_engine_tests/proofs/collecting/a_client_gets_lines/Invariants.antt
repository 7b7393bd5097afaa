use Rattle.vll_sca.specs.Placing.{placing}
use Rattle.vll_queue.specs.Shown.{name_of}
use Rattle.vll_engine_tests.proofs.collecting.a_client_gets_lines.Given as goal

abbrev pub ghosts-client_gets_its_lines : goal.ghosts-client_gets_its_lines
ghosts-client_gets_its_lines g a = record { engine = name_of placing a.opening }
