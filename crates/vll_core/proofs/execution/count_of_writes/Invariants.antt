use Rattle.std.proofs.Common.{◌≡◌, ◌+◌, filter, drop, length}
use Rattle.vll_core.proofs.Common.{is_write}
use Rattle.vll_core.proofs.execution.count_of_writes.Given as goal

-- the Write claims before this one are counted
abbrev pub invariant-loop-i : goal.invariant-loop-i
invariant-loop-i l = l.count + length (filter is_write (drop l.i l.claims)) ≡ length (filter is_write l.claims)
