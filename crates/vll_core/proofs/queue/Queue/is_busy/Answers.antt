use Rattle.std.proofs.Common.{◌≡◌, count_by, arith}
use Rattle.vll_core.proofs.Common.{common_steps, is_waiting, statuses}
use Rattle.vll_core.proofs.Entries.{shown_queued, shown_waiting, shown_cap}
use Rattle.vll_core.proofs.queue.Queue.is_busy.Goals as goal

pub returns-clause-answer : goal.returns-clause-answer
returns-clause-answer g c =
    let waiting : count_by is_waiting (statuses c.args.self.now) ≡ count_by is_waiting c.self.inside.statuses.items = shown_waiting _ _ c.self.invariant c.self.view_is in
    let cap : c.args.self.now.cap ≡ c.self.inside.cap = shown_cap c.self.inside _ c.self.view_is in
    grind (arith, common_steps, c.self.invariant.waiting)

pub returns-clause-kept : goal.returns-clause-kept
returns-clause-kept g c = shown_queued _ _ c.self.invariant c.self.view_is
