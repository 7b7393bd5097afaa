use Rattle.std.proofs.Common.{◌∙◌}
use Rattle.vll_queue.proofs.Working.{claims_there}
use Rattle.vll_queue.proofs.execution.run_at.Goals as goal

pub release_all-requires-clause-there : goal.release_all-requires-clause-there
release_all-requires-clause-there g c =
    claims_there g.N.Name.engine c.args.words.now c.work.new.seat.table c.work.new.seat.pass c.args.call.now c.requires.catalog c.work.ensures.done.of c.requires.words
    (c.work.ensures.same.call ∙ c.requires.call)
