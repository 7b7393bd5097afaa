use Rattle.std.proofs.Common.{◌≡◌, length}
use Rattle.vll_serial.proofs.PutBack.{IsPutBack}
use Rattle.vll_serial.proofs.alone.put_back.Given as goal

-- the records of the claims so far have been given their values
abbrev pub invariant-loop-i : goal.invariant-loop-i
invariant-loop-i l = (length l.records ≡ length l.initial.records) × IsPutBack l.frame l.claims l.i l.initial.records l.records
