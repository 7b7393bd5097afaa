-- Whether the list is within the limit turns on what is still to come.
use Rattle.std.proofs.Common.{◌≡◌, drop, nat_le}
use Rattle.vll_check.proofs.Common.{body_depth}
use Rattle.vll_check.proofs.measure.+depth.Given as goal

abbrev pub invariant-is_within-loop-statement : goal.invariant-is_within-loop-statement
invariant-is_within-loop-statement l = nat_le (body_depth l.statements) l.limit ≡ nat_le (body_depth (drop l.statement-index l.statements)) l.limit
