use Rattle.std.proofs.Common.{[], None}
use Rattle.vll_counters.proofs.Common.{no_claim}
use Rattle.vll_counters.proofs.words.Words.give_session.Given as goal

abbrev pub ghosts-give_session_knowing : goal.ghosts-give_session_knowing
ghosts-give_session_knowing a = record { base = record { procs = []; records = [] }; call = None; claim = no_claim; number = 0; given = a.given }
