use Rattle.std.proofs.Common.{rules}
use Rattle.vll_scenario.proofs.reading.syntax.place_of.Goals as goal

pub returns-in_ok-index_of-in-through : goal.returns-in_ok-index_of-in-through
returns-in_ok-index_of-in-through c = search rules
