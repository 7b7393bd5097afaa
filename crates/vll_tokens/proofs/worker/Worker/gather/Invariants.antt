-- The pass has what this worker kept and what is left of the other's in hand, and those of the other are settled.
use Rattle.std.proofs.Common.{◌≡◌, ◌++◌, All}
use Rattle.crossbeam_queue.specs.Passes.{view}
use Rattle.vll_tokens.specs.Pool.{HasInHand}
use Rattle.vll_tokens.specs.Settled.{IsSettled}
use Rattle.vll_tokens.specs.Tokens.{IsOf}
use Rattle.vll_tokens.proofs.worker.Worker.gather.Given as goal

abbrev pub invariant-loop-token : goal.invariant-loop-token
invariant-loop-token g l =
    HasInHand l.pool l.self.pass (l.token-iterator.rest.items ++ l.self.kept)
    × ((view l.self.pass).parts ≡ (view l.initial.self.pass).parts)
    × All (IsOf g.T.Roster.tokens) l.token-iterator.rest.items
    × All (IsSettled g.T.Roster.limit) l.token-iterator.rest.items
