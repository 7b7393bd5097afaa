use Rattle.std.proofs.Common.{◌≡◌, length, arith}
use Rattle.vll_core.proofs.Common.{common_steps}
use Rattle.vll_core.proofs.Entries.{shown_queued, shown_length, shown_limit}
use Rattle.vll_core.proofs.queue.Queue.is_spent.Goals as goal

pub returns-clause-answer : goal.returns-clause-answer
returns-clause-answer g c =
    let long : length c.args.self.now.entries ≡ length c.self.inside.statuses.items = shown_length _ _ c.self.invariant c.self.view_is in
    let limit : c.args.self.now.limit ≡ c.self.inside.limit = shown_limit c.self.inside _ c.self.view_is in
    grind (arith, common_steps, c.self.invariant.as_many)

pub returns-clause-kept : goal.returns-clause-kept
returns-clause-kept g c = shown_queued _ _ c.self.invariant c.self.view_is
