use Rattle.vll_workers.proofs.Merged.{merged}
use Rattle.vll_workers.proofs.laws.journals_merge_the_scripts.Goals as goal

pub returns : goal.returns
returns c = merged
