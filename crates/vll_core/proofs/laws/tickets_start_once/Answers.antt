use Rattle.vll_core.proofs.Once.{gone_stays, started_on, once_started}
use Rattle.vll_core.proofs.laws.tickets_start_once.Goals as goal

pub returns-clause-gone : goal.returns-clause-gone
returns-clause-gone c = gone_stays

pub returns-clause-started : goal.returns-clause-started
returns-clause-started c = started_on

pub returns-clause-once : goal.returns-clause-once
returns-clause-once c = once_started
