use Rattle.std.proofs.Common.{◌≡◌, filter, drop, slice_get}
use Rattle.vll_core.proofs.Common.{is_write}
use Rattle.vll_core.proofs.execution.index_of_write.Given as goal

-- the Write claim that is sought is number `left` of those from here on
abbrev pub invariant-loop-i : goal.invariant-loop-i
invariant-loop-i l = slice_get (filter is_write (drop l.i l.claims)) l.left ≡ slice_get (filter is_write l.claims) l.number
