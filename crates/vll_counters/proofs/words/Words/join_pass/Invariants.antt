use Rattle.std.proofs.Common.{None}
use Rattle.vll_counters.proofs.Common.{no_claim}
use Rattle.vll_counters.proofs.words.Words.join_pass.Given as goal

abbrev pub ghosts-join_pass_knowing : goal.ghosts-join_pass_knowing
ghosts-join_pass_knowing a = record { base = a.self.now.base; call = None; claim = no_claim; number = 0; given = None }
