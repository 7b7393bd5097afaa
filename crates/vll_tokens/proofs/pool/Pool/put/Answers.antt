use Rattle.std.proofs.Common.{subst, sym}
use Rattle.vll_tokens.specs.Pool.{HoldsOne}
use Rattle.vll_tokens.specs.Shown.{TokenShown}
use Rattle.crossbeam_queue.specs.Passes.{view}
use Rattle.vll_tokens.proofs.Fair.{has_room, puts}
use Rattle.vll_tokens.proofs.pool.Pool.put.Goals as goal

pub push_as-requires-clause-rule : goal.push_as-requires-clause-rule
push_as-requires-clause-rule g c =
    let one : HoldsOne (view c.args.pass.now).holds c.new.result.client = subst (λ (t : TokenShown). HoldsOne (view c.args.pass.now).holds t.client) (sym c.new.ensures) c.requires.held in
    (puts g.T.Roster.tokens _ _ _ c.new.result one c.requires.part, has_room g.T.Roster.tokens _ _ c.new.result.client one)
