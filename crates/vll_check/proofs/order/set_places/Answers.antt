use Rattle.std.proofs.Common.{◌≡◌, ◌<◌, length, get_or, arith}
use Rattle.vll_check.proofs.Common.{Entry}
use Rattle.vll_check.proofs.Numbering.{number_read, places_more, kept_more}
use Rattle.vll_check.proofs.order.set_places.Goals as goal

pub bounds-entries-number : goal.bounds-entries-number
bounds-entries-number c =
    let e = c.index-entries-i.result in
    let at = number_read c.args.entries.now c.loop-i.entries c.loop-i.i c.number-number.result e c.loop-i-test.true c.number-number.ensures c.loop-i.invariant.kept in
    omega (arith, at e, c.requires.numbers.within c.loop-i.i e c.loop-i-test.true, c.loop-i.auto.entries)

pub loop-i-preserved : goal.loop-i-preserved
loop-i-preserved c =
    let es = c.args.entries.now in
    let e = c.index-entries-i.result in
    let at : (d : Entry) → (get_or es c.loop-i.i d).number ≡ c.number-number.result = number_read es c.loop-i.entries c.loop-i.i c.number-number.result e c.loop-i-test.true c.number-number.ensures c.loop-i.invariant.kept in
    let there : c.number-number.result < length es = omega (arith, at e, c.requires.numbers.within c.loop-i.i e c.loop-i-test.true) in
    record {
      kept = kept_more es c.loop-i.entries c.loop-i.i c.number-number.result _ _ there c.loop-i.auto.entries c.set_place.ensures c.loop-i.invariant.kept;
      done = places_more es c.loop-i.entries c.loop-i.i c.number-number.result _ _ c.requires.numbers c.loop-i-test.true c.loop-i.auto.entries at c.set_place.ensures c.loop-i.invariant.done;
    }
