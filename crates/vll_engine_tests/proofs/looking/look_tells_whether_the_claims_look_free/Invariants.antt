use Rattle.vll_sca.specs.Placing.{placing}
use Rattle.vll_queue.specs.Shown.{name_of}
use Rattle.vll_engine_tests.proofs.looking.look_tells_whether_the_claims_look_free.Given as goal

abbrev pub ghosts-looks : goal.ghosts-looks
ghosts-looks g a = record { engine = name_of placing a.opening }
