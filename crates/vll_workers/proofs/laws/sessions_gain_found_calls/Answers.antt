use Rattle.vll_workers.proofs.Merged.{gained_found}
use Rattle.vll_workers.proofs.laws.sessions_gain_found_calls.Goals as goal

pub returns : goal.returns
returns c = gained_found
