use Rattle.vll_record.proofs.Counted.{is_granted-no_conflict}
use Rattle.vll_record.proofs.laws.granted_where_no_claim_conflicts.Goals as goal

pub returns : goal.returns
returns c = is_granted-no_conflict
