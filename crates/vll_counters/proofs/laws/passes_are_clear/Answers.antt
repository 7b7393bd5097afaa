use Rattle.vll_counters.proofs.Between.{clear_pass}
use Rattle.vll_counters.proofs.laws.passes_are_clear.Goals as goal

pub returns : goal.returns
returns c = clear_pass
