use Rattle.vll_workers.proofs.Merged.{spent_early}
use Rattle.vll_workers.proofs.laws.spent_engines_took_fewer_calls.Goals as goal

pub returns : goal.returns
returns c = spent_early
