use Rattle.std.proofs.Common.{◌≡◌, arith, refl}
use Rattle.vll_record.proofs.Common.{Claim, is_write}
use Rattle.vll_record.proofs.Masks.{bit, mask_of-insert}
use Rattle.vll_record.proofs.claims.modes.Modes.insert.Goals.{in-Read, in-Write}
use Rattle.vll_record.proofs.claims.modes.Modes.insert.Goals as goal

pub returns : goal.returns
returns c cs id is few within =
    let claim : Claim = record { id = id; mode = c.args.mode } in
    let one : c.match-mode.bit ≡ bit (is_write claim) =
    elim c.match-mode.branch [
      | in-Read w ↦ rw (w.bit-is, w.in-Read.is) refl
      | in-Write w ↦ rw (w.bit-is, w.in-Write.is) refl
    ] in
    rw (is, one) (mask_of-insert cs c.args.i claim within (omega arith))
