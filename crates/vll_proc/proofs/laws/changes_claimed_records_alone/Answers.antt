-- A key position that a body may set claims its record for writing.
use Rattle.vll_proc.proofs.Kept.{slice_index-applied}
use Rattle.vll_proc.proofs.laws.changes_claimed_records_alone.Goals as goal

pub returns : goal.returns
returns c = slice_index-applied
