-- The sessions that are left are of the first clients, and the tokens that are made of the others.
use Rattle.std.proofs.Common.{◌≤◌, All, length, nat_eq, vec_len}
use Rattle.std.specs.List.{IsDistinct}
use Rattle.vll_counters.specs.Shown.{AreNewSessions}
use Rattle.vll_tokens.specs.Tokens.{AreFit, clients_of}
use Rattle.vll_workers_tests.proofs.tokens.all_calling_in_turn.Given as goal

abbrev pub invariant-loop-session : goal.invariant-loop-session
invariant-loop-session g l = record {
  sessions : AreNewSessions g.N.Name.engine.table (length l.sessions.items) l.sessions.items;
  above : All (λ t. length l.sessions.items ≤ t.client) l.tokens.items;
  fit : AreFit g.N.Name.engine l.tokens.items;
  distinct : IsDistinct nat_eq (clients_of l.tokens.items);
}

abbrev pub decreases-loop-session : goal.decreases-loop-session
decreases-loop-session g l = vec_len l.sessions
