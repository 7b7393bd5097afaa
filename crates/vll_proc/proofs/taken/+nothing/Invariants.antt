-- The statements before the current one in the list do nothing.
use Rattle.std.proofs.Common.{◌≡◌, true, take}
use Rattle.vll_proc.proofs.Common.{list_all}
use Rattle.vll_proc.specs.Steps.{does_nothing}
use Rattle.vll_proc.proofs.taken.+nothing.Given as goal

abbrev pub invariant-list_does_nothing-loop-statement : goal.invariant-list_does_nothing-loop-statement
invariant-list_does_nothing-loop-statement l = list_all does_nothing (take l.statement-index l.statements) ≡ true
