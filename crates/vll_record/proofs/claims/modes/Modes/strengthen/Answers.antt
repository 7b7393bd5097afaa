use Rattle.std.proofs.Common.{◌≡◌, rules, arith}
use Rattle.vll_record.proofs.Common.{Read, Write}
use Rattle.vll_record.proofs.Masks.{mask_of-stronger_write, mask_of-stronger_read}
use Rattle.vll_record.proofs.claims.modes.Modes.strengthen.Goals as goal

pub returns-then-eq : goal.returns-then-eq
returns-then-eq c cs held is at =
    let mode : c.args.mode ≡ Write = search rules in
    rw is (mask_of-stronger_write cs c.args.i held c.args.mode (omega arith) at mode)

pub returns-else-eq : goal.returns-else-eq
returns-else-eq c cs held is at =
    let mode : c.args.mode ≡ Read = search rules in
    rw is (mask_of-stronger_read cs c.args.i held c.args.mode at mode)
