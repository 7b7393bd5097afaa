-- What is left, with the replies that are still to come.
use Rattle.std.proofs.Common.{◌≡◌, ◌+◌, drop, sum_by}
use Rattle.vll_check.proofs.Common.{replies}
use Rattle.vll_check.proofs.measure.+replies.Given as goal

abbrev pub invariant-replies_left-loop-statement : goal.invariant-replies_left-loop-statement
invariant-replies_left-loop-statement l = l.limit + sum_by replies (drop l.statement-index l.statements) ≡ l.left + sum_by replies l.statements
