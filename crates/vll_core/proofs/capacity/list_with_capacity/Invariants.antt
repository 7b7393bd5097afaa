use Rattle.std.proofs.Common.{◌≡◌, ◌≤◌, vec_capacity, vec_len}
use Rattle.vll_core.proofs.capacity.list_with_capacity.Given as goal

abbrev pub invariant-loop : goal.invariant-loop
invariant-loop g l = record {
  filled : vec_len l.list ≡ l.counter;
  capacity : l.fn.capacity ≤ vec_capacity l.list;
}
