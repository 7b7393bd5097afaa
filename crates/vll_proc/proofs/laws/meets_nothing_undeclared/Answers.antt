-- What a body reads and sets is declared, and each local that it reads was given a value before.
use Rattle.vll_proc.proofs.Declared.{meets_nothing}
use Rattle.vll_proc.proofs.laws.meets_nothing_undeclared.Goals as goal

pub returns : goal.returns
returns c = meets_nothing
