use Rattle.std.proofs.Common.{None}
use Rattle.vll_counters.proofs.Common.{no_claim}
use Rattle.vll_counters.proofs.words.Words.find.Given as goal

abbrev pub ghosts-find_knowing : goal.ghosts-find_knowing
ghosts-find_knowing a = record { base = a.self.now.base; call = None; claim = no_claim; number = a.id; given = None }
