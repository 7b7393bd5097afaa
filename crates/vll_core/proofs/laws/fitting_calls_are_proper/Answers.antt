use Rattle.vll_core.proofs.Fitted.{proper_ready, proper_scripts}
use Rattle.vll_core.proofs.laws.fitting_calls_are_proper.Goals as goal

pub returns-clause-call : goal.returns-clause-call
returns-clause-call c = proper_ready

pub returns-clause-scripts : goal.returns-clause-scripts
returns-clause-scripts c = proper_scripts
