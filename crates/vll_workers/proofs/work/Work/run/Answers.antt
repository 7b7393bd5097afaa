use Rattle.std.proofs.Common.{rules}
use Rattle.vll_workers.proofs.work.Work.run.Goals as goal

pub returns-then-not-rest-clause-new : goal.returns-then-not-rest-clause-new
returns-then-not-rest-clause-new g c = search rules

pub returns-then-not-rest-clause-tried : goal.returns-then-not-rest-clause-tried
returns-then-not-rest-clause-tried g c = search rules
