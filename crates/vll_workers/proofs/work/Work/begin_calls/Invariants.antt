-- The token is the client's still and of those that were handed in.
use Rattle.std.proofs.Common.{◌≡◌}
use Rattle.vll_tokens.specs.Tokens.{IsOf}
use Rattle.vll_workers.proofs.work.Work.begin_calls.Given as goal

abbrev pub invariant-loop : goal.invariant-loop
invariant-loop g l = IsOf g.T.Roster.tokens l.token × (l.token.client ≡ l.initial.token.client)
