use Rattle.std.proofs.Common.{◌≡◌, true, false, length, slice_get, ap, arith}
use Rattle.std.specs.Option.{option_map_or}
use Rattle.vll_record.specs.Headline.Claim.{is_write}
use Rattle.vll_core.proofs.AtWork.{write_counted, write_passed, none_left, few_writes}
use Rattle.vll_draw.proofs.one_by_one.writes_in.Goals as goal
use Rattle.vll_draw.proofs.one_by_one.writes_in.Goals.{then-is_write, else-is_write}

pub loop-i-init : goal.loop-i-init
loop-i-init c = omega arith

pub overflow_add-count : goal.overflow_add-count
overflow_add-count c =
    omega (arith, few_writes c.args.claims.now, c.len-i-end.ensures.few, c.loop-i.invariant)

pub loop-i-preserved : goal.loop-i-preserved
loop-i-preserved c =
    let claims = c.args.claims.now in
    elim c.if-is_write.branch [
      | then-is_write w ↦
          let writes : option_map_or is_write (slice_get claims c.loop-i.i) false ≡ true = cc in
          let one = write_counted claims c.loop-i.i writes in
          let now = w.count-is in
          omega (arith, one, now, c.loop-i.invariant)
      | else-is_write w ↦
          let reads : option_map_or is_write (slice_get claims c.loop-i.i) false ≡ false = cc in
          let same = ap length (write_passed claims c.loop-i.i (omega arith) reads) in
          let now = w.count-is in
          omega (arith, same, now, c.loop-i.invariant)
    ]

pub returns : goal.returns
returns c =
    let none = ap length (none_left c.args.claims.now c.loop-i.i (omega arith)) in
    omega (arith, none, c.loop-i.invariant)
