use Rattle.std.proofs.Common.{rules}
use Rattle.vll_queue.proofs.locked.Locked.refusal.Goals as goal

pub returns-then-is_spent-clause-answer : goal.returns-then-is_spent-clause-answer
returns-then-is_spent-clause-answer g c = search rules
