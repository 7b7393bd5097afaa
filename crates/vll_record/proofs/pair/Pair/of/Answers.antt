use Rattle.std.proofs.Common.{rules}
use Rattle.vll_record.proofs.pair.Pair.of.Goals as goal

pub returns-clause-cx : goal.returns-clause-cx
returns-clause-cx c = search rules

pub returns-clause-cs : goal.returns-clause-cs
returns-clause-cs c = search rules
