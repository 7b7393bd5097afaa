use Rattle.vll_counters.proofs.Between.{clear}
use Rattle.vll_counters.proofs.laws.tickets_are_clear.Goals as goal

pub returns : goal.returns
returns c = clear
