use Rattle.vll_check.proofs.Both.{IsBothBelow}
use Rattle.vll_check.proofs.locals.Locals.both.Given as goal

abbrev pub invariant-loop-i : goal.invariant-loop-i
invariant-loop-i l = IsBothBelow l.fn.self l.fn.other l.set l.i
