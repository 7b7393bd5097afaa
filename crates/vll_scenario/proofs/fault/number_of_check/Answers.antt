use Rattle.std.proofs.Common.{rules}
use Rattle.vll_scenario.proofs.fault.number_of_check.Goals as goal

pub returns-in-UnsetLocal : goal.returns-in-UnsetLocal
returns-in-UnsetLocal c = search rules
