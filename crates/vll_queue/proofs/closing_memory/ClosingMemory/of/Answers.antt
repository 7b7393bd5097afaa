use Rattle.std.proofs.Common.{rules}
use Rattle.vll_queue.proofs.closing_memory.ClosingMemory.of.Goals as goal

pub invariant_of-result : goal.invariant_of-result
invariant_of-result c = search rules
