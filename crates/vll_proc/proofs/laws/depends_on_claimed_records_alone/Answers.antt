-- Both lists of records have the values of one list of cells.
use Rattle.vll_proc.proofs.Local.{same_reply, same_values}
use Rattle.vll_proc.proofs.laws.depends_on_claimed_records_alone.Goals as goal

pub returns-clause-replies : goal.returns-clause-replies
returns-clause-replies c = same_reply

pub returns-clause-values : goal.returns-clause-values
returns-clause-values c = same_values
