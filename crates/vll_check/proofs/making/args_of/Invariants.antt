use Rattle.std.proofs.Common.{◌≡◌, take}
use Rattle.vll_check.proofs.Common.{MOST_ARGS, laid}
use Rattle.vll_check.proofs.making.args_of.Given as goal

abbrev pub invariant-loop-i : goal.invariant-loop-i
invariant-loop-i l = l.places ≡ laid MOST_ARGS 0 (take l.i l.args)
