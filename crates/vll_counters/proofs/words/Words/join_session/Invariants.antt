use Rattle.std.proofs.Common.{None}
use Rattle.vll_counters.proofs.Common.{option_map, no_claim}
use Rattle.vll_counters.proofs.words.Words.join_session.Given as goal

abbrev pub ghosts-join_session_knowing : goal.ghosts-join_session_knowing
ghosts-join_session_knowing a = record { base = a.self.now.base; call = option_map (λ b. b.now) a.call; claim = no_claim; number = 0; given = None }
