use Rattle.std.proofs.Common.{rules}
use Rattle.vll_scenario.proofs.reading.shape.shape_of.Goals as goal

pub returns-in_err-bits : goal.returns-in_err-bits
returns-in_err-bits c = search rules
