use Rattle.std.proofs.Common.{rules}
use Rattle.vll_engine.proofs.client.Client.begin.Goals as goal

pub returns-clause-answer : goal.returns-clause-answer
returns-clause-answer g c = search rules
