use Rattle.std.proofs.Common.{rules}
use Rattle.vll_queue.proofs.locked.next.give_pass.Goals as goal

pub give_pass-requires-clause-may_run : goal.give_pass-requires-clause-may_run
give_pass-requires-clause-may_run c = search rules

pub returns-clause-seat : goal.returns-clause-seat
returns-clause-seat c = search rules

pub returns-clause-pass : goal.returns-clause-pass
returns-clause-pass c = search rules
