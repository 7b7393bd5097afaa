use Rattle.std.proofs.Common.{None}
use Rattle.vll_counters.proofs.words.Words.request.Given as goal

abbrev pub ghosts-request_knowing : goal.ghosts-request_knowing
ghosts-request_knowing a = record { base = a.self.now.base; call = None; claim = a.claim; number = 0; given = None }
