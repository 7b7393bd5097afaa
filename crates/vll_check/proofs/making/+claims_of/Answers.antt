use Rattle.std.proofs.Common.{arith, inl, length, ap, take, drop, ◌-◌, length-take, length-drop}
use Rattle.vll_check.proofs.Common.{common_steps, asked_by}
use Rattle.vll_record.proofs.ClaimsOf.{length-claims_of-le}
use Rattle.vll_check.proofs.Fitting.{length-asked_by-le}
use Rattle.vll_check.proofs.making.+claims_of.Goals as goal

pub add-requires : goal.add-requires
add-requires t c =
    let keys = c.args.keys.now in
    let others = take (length keys - 1) (drop 1 keys) in
    let n = c.args.naming.records in
    let args = c.args.naming.args.now in
    let found = c.args.naming.found in
    inl (omega (arith, ap length c.claims_of-claims.ensures, length-claims_of-le (asked_by n args found others), length-asked_by-le n args found others, length-take (length keys - 1) (drop 1 keys), length-drop 1 keys))

pub returns-in-Some : goal.returns-in-Some
returns-in-Some t c = grind (arith, common_steps)
