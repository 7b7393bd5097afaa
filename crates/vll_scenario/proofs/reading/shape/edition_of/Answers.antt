use Rattle.std.proofs.Common.{rules}
use Rattle.vll_scenario.proofs.reading.shape.edition_of.Goals as goal

pub returns-in-Some-eq2 : goal.returns-in-Some-eq2
returns-in-Some-eq2 c = search rules
