use Rattle.vll_counters.proofs.Between.{one_session}
use Rattle.vll_counters.proofs.laws.clients_have_one_session.Goals as goal

pub returns : goal.returns
returns c = one_session
