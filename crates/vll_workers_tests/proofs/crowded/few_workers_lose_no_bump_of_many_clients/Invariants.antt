use Rattle.vll_sca.specs.Placing.{placing}
use Rattle.vll_queue.specs.Shown.{name_of}
use Rattle.vll_workers_tests.proofs.crowded.few_workers_lose_no_bump_of_many_clients.Given as goal

abbrev pub ghosts-all_bump_one_record : goal.ghosts-all_bump_one_record
ghosts-all_bump_one_record g a = record { engine = name_of placing a.opening }
