use Rattle.std.proofs.Common.{arith, sym, ap₂, ◌∙◌}
use Rattle.vll_check.proofs.Common.{bytes_eq}
use Rattle.vll_check.proofs.Twice.{twice_read, less_more, once_from_rising, rising_from_less}
use Rattle.vll_check.proofs.order.has_equal_neighbours.Goals as goal

pub returns-then-eq : goal.returns-then-eq
returns-then-eq c =
    let same = ap₂ bytes_eq (sym c.name.ensures) (sym c.name-in-loop-i.ensures) ∙ sym c.eq.ensures ∙ c.if-eq.true in
    sym (twice_read c.args.entries.now c.loop-i.i _ _ c.loop-i.auto.i c.loop-i-test.true c.index-entries-i.is c.index-entries-i-in-loop-i.is same)

pub loop-i-preserved : goal.loop-i-preserved
loop-i-preserved c =
    let apart = ap₂ bytes_eq (sym c.name.ensures) (sym c.name-in-loop-i.ensures) ∙ sym c.eq.ensures ∙ c.if-eq.false in
    less_more c.args.entries.now c.loop-i.i _ _ c.requires c.loop-i-test.true c.index-entries-i.is c.index-entries-i-in-loop-i.is apart c.loop-i.invariant

pub returns : goal.returns
returns c =
    sym (once_from_rising c.args.entries.now (rising_from_less c.args.entries.now (λ k d within. c.loop-i.invariant k d (omega (arith, within, c.loop-i-test.false)))))
