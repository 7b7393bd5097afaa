use Rattle.std.proofs.Common.{rules}
use Rattle.vll_scenario.proofs.reading.schedule.event_with.Goals as goal

pub returns-in-find : goal.returns-in-find
returns-in-find c = search rules
