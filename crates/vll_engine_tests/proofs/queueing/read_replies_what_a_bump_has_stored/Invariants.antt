use Rattle.vll_sca.specs.Placing.{placing}
use Rattle.vll_queue.specs.Shown.{name_of}
use Rattle.vll_engine_tests.proofs.queueing.read_replies_what_a_bump_has_stored.Given as goal

abbrev pub ghosts-reads_the_bumped_value : goal.ghosts-reads_the_bumped_value
ghosts-reads_the_bumped_value g a = record { engine = name_of placing a.opening }
