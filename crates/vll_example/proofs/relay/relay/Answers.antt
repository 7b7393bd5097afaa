use Rattle.std.proofs.Common.{rules}
use Rattle.vll_example.proofs.relay.relay.Goals as goal

pub returns-clause-first : goal.returns-clause-first
returns-clause-first g c = search rules

pub returns-clause-other : goal.returns-clause-other
returns-clause-other g c = search rules
