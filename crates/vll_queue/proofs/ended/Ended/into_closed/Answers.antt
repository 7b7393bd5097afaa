use Rattle.vll_core.specs.Queue.{lines}
use Rattle.vll_queue.proofs.Ending.{serial_closed}
use Rattle.vll_queue.proofs.ended.Ended.into_closed.Goals as goal

pub returns-clause-serial : goal.returns-clause-serial
returns-clause-serial g c =
    serial_closed g.N.Name.engine (lines c.args.self.queue) (record { records = c.args.self.records; pairs = c.args.self.pairs; journal = c.into_journal.result }) c.requires.serial c.requires.records c.requires.pairs c.into_journal.ensures.lines
