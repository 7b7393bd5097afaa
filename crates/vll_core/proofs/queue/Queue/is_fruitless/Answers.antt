use Rattle.vll_core.proofs.QueueScan.{none_waits}
use Rattle.vll_core.proofs.queue.Queue.is_fruitless.Goals as goal

pub returns-then-self-eq0 : goal.returns-then-self-eq0
returns-then-self-eq0 g c _ = none_waits g.H.Place.place_of c.self.inside c.args.self.now c.self.invariant c.self.view_is c.if-self-eq0.true
