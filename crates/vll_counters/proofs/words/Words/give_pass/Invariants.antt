use Rattle.std.proofs.Common.{[], None}
use Rattle.vll_counters.proofs.Common.{no_claim}
use Rattle.vll_counters.proofs.words.Words.give_pass.Given as goal

abbrev pub ghosts-give_pass_knowing : goal.ghosts-give_pass_knowing
ghosts-give_pass_knowing a = record { base = record { procs = []; records = [] }; call = None; claim = no_claim; number = a.ticket; given = None }
