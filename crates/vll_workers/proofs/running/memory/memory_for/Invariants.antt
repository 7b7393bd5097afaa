use Rattle.std.proofs.Common.{◌≡◌, ◌≤◌, vec_capacity, vec_len}
use Rattle.vll_workers.proofs.running.memory.memory_for.Given as goal

abbrev pub invariant-loop : goal.invariant-loop
invariant-loop g l = (vec_len l.desks ≡ l.counter) × (l.workers ≤ vec_capacity l.desks)
