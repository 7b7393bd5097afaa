-- The statements before the current one in the list pass.
use Rattle.std.proofs.Common.{◌≡◌, true, take}
use Rattle.vll_check.proofs.Common.{list_all, turns_are_few}
use Rattle.vll_check.proofs.turns.+turns.Given as goal

abbrev pub invariant-list_turns_are_few-loop-statement : goal.invariant-list_turns_are_few-loop-statement
invariant-list_turns_are_few-loop-statement l = list_all (turns_are_few l.edition) (take l.statement-index l.statements) ≡ true
