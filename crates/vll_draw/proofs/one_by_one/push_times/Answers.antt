use Rattle.std.proofs.Common.{◌≡◌, ◌-◌, ◌++◌, ◌∷◌, [], ◌∙◌, ap, arith, length, min}
use Rattle.vll_scenario.specs.declared.limits.TheConstants.{MOST_EVENTS}
use Rattle.vll_draw.proofs.OneByOne.{times_all, times_next}
use Rattle.vll_draw.proofs.one_by_one.push_times.Goals as goal

pub loop-preserved : goal.loop-preserved
loop-preserved c =
    c.in_ok-push.ensures.ok ∙ (ap (λ zs. zs ++ c.args.event.now ∷ []) c.loop.invariant ∙ times_next c.args.schedule.now c.args.event.now c.loop.counter)

pub returns : goal.returns
returns c =
    let end : c.min-end.result ≡ min c.args.times (MOST_EVENTS - length c.args.schedule.now) = c.min-end.ensures ∙ ap (λ n. min c.args.times (MOST_EVENTS - n)) c.len-room.ensures in
    let all : c.loop.counter ≡ c.min-end.result = let past = c.loop-test.false in let upto = c.loop.auto.counter-end in omega (arith, past, upto) in
    c.loop.invariant ∙ times_all MOST_EVENTS c.args.times c.loop.counter c.args.schedule.now c.args.event.now c.requires (all ∙ end)
