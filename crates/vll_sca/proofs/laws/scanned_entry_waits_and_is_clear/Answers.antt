-- What is found is the first that may run.
use Rattle.vll_sca.proofs.Scanning.{scanned_within, scanned_waits, scanned_is_clear}
use Rattle.vll_sca.proofs.laws.scanned_entry_waits_and_is_clear.Goals as goal

pub returns-clause-there : goal.returns-clause-there
returns-clause-there c = scanned_within

pub returns-clause-waits : goal.returns-clause-waits
returns-clause-waits c = scanned_waits

pub returns-clause-clear : goal.returns-clause-clear
returns-clause-clear c = scanned_is_clear
