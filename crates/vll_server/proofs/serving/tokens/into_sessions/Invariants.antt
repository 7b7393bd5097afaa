-- The sessions of the first tokens are taken out, and there is room for those of the rest.
use Rattle.std.proofs.Common.{◌≡◌, ◌≤◌, ◌++◌, length, vec_capacity}
use Rattle.vll_server.specs.Private.Serving.{sessions_in}
use Rattle.vll_server.proofs.serving.tokens.into_sessions.Given as goal

abbrev pub invariant-loop-token : goal.invariant-loop-token
invariant-loop-token l = record {
  tokens : l.yielded ++ l.token-iterator.rest.items ≡ l.fn.tokens.items;
  sessions : l.sessions.items ≡ sessions_in l.yielded;
  room : length l.fn.tokens.items ≤ vec_capacity l.sessions;
}
