use Rattle.vll_check.proofs.checked.Checked.proc.Goals as goal

pub returns-clause-passed : goal.returns-clause-passed
returns-clause-passed c = rw (← c.self.view_is) c.self.invariant.passed
