use Rattle.std.proofs.Common.{rules}
use Rattle.vll_queue.proofs.locked.Locked.next_scan_if_due.Goals as goal

pub returns-then-puts_off_a_scan-clause-ticket : goal.returns-then-puts_off_a_scan-clause-ticket
returns-then-puts_off_a_scan-clause-ticket g c = search rules
