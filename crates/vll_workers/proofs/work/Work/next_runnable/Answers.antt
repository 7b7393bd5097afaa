use Rattle.std.proofs.Common.{◌∙◌}
use Rattle.vll_workers.proofs.work.Work.next_runnable.Goals as goal

pub loop-preserved : goal.loop-preserved
loop-preserved g c =
    let so_far = c.loop.invariant in
    let one = c.begin_next.ensures in
    (one.new, one.parts ∙ so_far.1, one.few)
