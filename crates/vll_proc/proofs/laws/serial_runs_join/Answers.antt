-- The calls of the first list run as they do alone, and those of the second from where they end.
use Rattle.std.proofs.Common.{sym}
use Rattle.vll_proc.proofs.Joined.{answer_of_first, answer_of_second, end_joined}
use Rattle.vll_proc.proofs.laws.serial_runs_join.Goals as goal

pub returns-clause-first : goal.returns-clause-first
returns-clause-first c procs calls more records i within = sym (answer_of_first procs calls more records i within)

pub returns-clause-second : goal.returns-clause-second
returns-clause-second c procs calls more records i = sym (answer_of_second procs calls more records i)

pub returns-clause-end : goal.returns-clause-end
returns-clause-end c procs calls more records = sym (end_joined procs calls more records)
