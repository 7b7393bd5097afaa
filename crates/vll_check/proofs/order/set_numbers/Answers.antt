use Rattle.std.proofs.Common.{◌<◌, length, arith}
use Rattle.vll_check.proofs.Common.{common_steps}
use Rattle.vll_check.proofs.Numbering.{numbers_more, passed_more}
use Rattle.vll_check.proofs.order.set_numbers.Goals as goal

pub loop-i-preserved : goal.loop-i-preserved
loop-i-preserved c =
    let within : c.loop-i.i < length c.loop-i.entries = omega (arith, c.loop-i.auto.entries, c.loop-i-test.true) in
    record {
      done = numbers_more c.args.entries.now c.loop-i.entries c.loop-i.i _ _ within c.set_number.ensures.set c.loop-i.invariant.done c.loop-i.invariant.left;
      left = λ n d le. grind (arith, common_steps, c.loop-i.invariant.left n d);
      passed = passed_more c.args.entries.now c.loop-i.entries c.loop-i.i _ within (c.loop-i.invariant.left _ _ (omega arith)) c.loop-i.auto.entries c.set_number.ensures.passed c.loop-i.invariant.passed;
    }
