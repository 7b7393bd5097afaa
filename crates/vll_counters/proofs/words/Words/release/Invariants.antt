use Rattle.std.proofs.Common.{None}
use Rattle.vll_counters.proofs.words.Words.release.Given as goal

abbrev pub ghosts-release_knowing : goal.ghosts-release_knowing
ghosts-release_knowing a = record { base = a.self.now.base; call = None; claim = a.claim; number = 0; given = None }
