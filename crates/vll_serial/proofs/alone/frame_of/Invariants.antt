use Rattle.std.proofs.Common.{◌≡◌, length}
use Rattle.vll_record.specs.declared.claims.TheConstants.{MOST_CLAIMS}
use Rattle.vll_serial.proofs.PutBack.{HoldsBefore}
use Rattle.vll_serial.proofs.alone.frame_of.Given as goal

-- the cells of the claims so far hold their records' values
abbrev pub invariant-loop-i : goal.invariant-loop-i
invariant-loop-i l = (length l.frame ≡ MOST_CLAIMS) × HoldsBefore l.frame l.claims l.records l.i
