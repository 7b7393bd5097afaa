use Rattle.vll_sca.specs.Placing.{placing}
use Rattle.vll_queue.specs.Shown.{name_of}
use Rattle.vll_engine_tests.proofs.queueing.reply_comes_when_the_call_is_finished.Given as goal

abbrev pub ghosts-reply_comes : goal.ghosts-reply_comes
ghosts-reply_comes g a = record { engine = name_of placing a.opening }
