use Rattle.std.proofs.Common.{◌≡◌, All, vec_len}
use Rattle.vll_workers_tests.proofs.tokens.sessions_of.Given as goal

abbrev pub invariant-loop-token : goal.invariant-loop-token
invariant-loop-token g l = record {
  tokens : All (λ t. t.session.table ≡ g.N.Name.engine.table) l.tokens.items;
  sessions : All (λ s. s.table ≡ g.N.Name.engine.table) l.sessions.items;
}

abbrev pub decreases-loop-token : goal.decreases-loop-token
decreases-loop-token g l = vec_len l.tokens
