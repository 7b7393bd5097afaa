use Rattle.std.proofs.Common.{◌≡◌, ◌+◌, filter, drop, length}
use Rattle.vll_record.specs.Headline.Claim.{is_write}
use Rattle.vll_draw.proofs.one_by_one.writes_in.Given as goal

-- the Write claims before this one are counted
abbrev pub invariant-loop-i : goal.invariant-loop-i
invariant-loop-i l = l.count + length (filter is_write (drop l.i l.claims)) ≡ length (filter is_write l.claims)
