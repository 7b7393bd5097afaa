use Rattle.std.proofs.Common.{rules}
use Rattle.vll_engine.proofs.client.Client.call.Goals as goal

pub returns-in_err-call-clause-fault : goal.returns-in_err-call-clause-fault
returns-in_err-call-clause-fault g c = search rules
