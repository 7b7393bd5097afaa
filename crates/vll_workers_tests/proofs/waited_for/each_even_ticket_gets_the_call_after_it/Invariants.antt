use Rattle.vll_sca.specs.Placing.{placing}
use Rattle.vll_queue.specs.Shown.{name_of}
use Rattle.vll_workers_tests.proofs.waited_for.each_even_ticket_gets_the_call_after_it.Given as goal

abbrev pub ghosts-gets_each_next : goal.ghosts-gets_each_next
ghosts-gets_each_next g a = record { engine = name_of placing a.opening }
