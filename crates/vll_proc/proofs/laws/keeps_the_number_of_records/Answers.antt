-- A store changes a value and no length.
use Rattle.vll_proc.proofs.Kept.{length-applied}
use Rattle.vll_proc.proofs.laws.keeps_the_number_of_records.Goals as goal

pub returns : goal.returns
returns c = length-applied
