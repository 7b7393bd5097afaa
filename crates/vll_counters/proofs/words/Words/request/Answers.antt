use Rattle.std.proofs.Common.{rules}
use Rattle.vll_counters.proofs.words.Words.request.Goals as goal

pub returns-clause-step : goal.returns-clause-step
returns-clause-step c = search rules
