-- The pass has the tokens that are left in hand, and nothing is kept.
use Rattle.std.proofs.Common.{◌≡◌, [], All}
use Rattle.crossbeam_queue.specs.Passes.{view}
use Rattle.vll_tokens.specs.Pool.{HasInHand}
use Rattle.vll_tokens.specs.Tokens.{IsOf}
use Rattle.vll_tokens.proofs.worker.Worker.put_all.Given as goal

abbrev pub invariant-loop-token : goal.invariant-loop-token
invariant-loop-token g l =
    HasInHand l.pool l.self.pass l.token-iterator.rest.items
    × ((view l.self.pass).parts ≡ (view l.initial.self.pass).parts)
    × All (IsOf g.T.Roster.tokens) l.token-iterator.rest.items
    × (l.self.kept ≡ [])
