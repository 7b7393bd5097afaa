use Rattle.std.proofs.Common.{rules}
use Rattle.vll_queue.proofs.locked.admit.request_all.Goals as goal

pub loop-claim-init : goal.loop-claim-init
loop-claim-init c = search rules
