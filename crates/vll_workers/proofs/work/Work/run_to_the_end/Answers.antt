use Rattle.std.proofs.Common.{rules}
use Rattle.vll_workers.proofs.work.Work.run_to_the_end.Goals as goal

pub returns-in_default : goal.returns-in_default
returns-in_default g c = search rules

pub run-requires-clause-old : goal.run-requires-clause-old
run-requires-clause-old g c κs within = search rules
