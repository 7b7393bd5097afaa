use Rattle.std.proofs.Common.{rules}
use Rattle.vll_scenario.proofs.reading.setup.has_sizes.Goals as goal

pub returns-then-has_few_calls : goal.returns-then-has_few_calls
returns-then-has_few_calls c = search rules
