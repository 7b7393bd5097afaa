-- What the list reads and sets turns on what is set so far and what is still to come.
use Rattle.std.proofs.Common.{◌≡◌, drop}
use Rattle.vll_check.proofs.Common.{body_reads_set, body_set_behind}
use Rattle.vll_check.proofs.locals.+set_behind.Given as goal

abbrev pub invariant-list_set_behind-loop-statement : goal.invariant-list_set_behind-loop-statement
invariant-list_set_behind-loop-statement l = record {
  reads : body_reads_set l.fn.before l.statements ≡ body_reads_set l.set (drop l.statement-index l.statements);
  behind : body_set_behind l.statements l.fn.before ≡ body_set_behind (drop l.statement-index l.statements) l.set;
}
