use Rattle.vll_queue.proofs.Looking.{looked_there}
use Rattle.vll_queue.proofs.execution.look.Goals as goal

pub look_all-requires : goal.look_all-requires
look_all-requires g c = record { there = looked_there g.N.Name.engine c.args.words.now c.args.call.now c.requires.words c.requires.catalog c.requires.fits }
