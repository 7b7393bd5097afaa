use Rattle.vll_sca.specs.Placing.{placing}
use Rattle.vll_queue.specs.Shown.{name_of}
use Rattle.vll_workers_tests.proofs.limited.run_without_a_start_hands_the_tokens_back.Given as goal

abbrev pub ghosts-is_refused : goal.ghosts-is_refused
ghosts-is_refused g a = record { engine = name_of placing a.opening }
