use Rattle.std.proofs.Common.{None}
use Rattle.vll_counters.proofs.Common.{no_claim}
use Rattle.vll_counters.proofs.words.Words.load.Given as goal

abbrev pub ghosts-load_knowing : goal.ghosts-load_knowing
ghosts-load_knowing a = record { base = a.self.now.base; call = None; claim = no_claim; number = a.id; given = None }
