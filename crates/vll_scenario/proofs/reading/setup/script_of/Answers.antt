use Rattle.std.proofs.Common.{◌≡◌, ◌∙◌, ◌+◌, Ok, ap, ap₂, drop, sym}
use Rattle.vll_check.specs.Calls.{call_made}
use Rattle.vll_scenario.specs.Scenario.{call_at, each_given, in_call}
use Rattle.vll_scenario.proofs.Fitting.{drop-next}
use Rattle.vll_scenario.proofs.Given.{after_those, after_those-next}
use Rattle.vll_scenario.proofs.reading.setup.script_of.Goals as goal

pub loop-index-preserved : goal.loop-index-preserved
loop-index-preserved c =
    let script = c.args.script.now in
    let asked = c.index-script-index.result in
    let i = c.loop-index.index in
    let f = call_at c.args.library.now c.args.client in
    let made : call_made c.args.library.now asked.name asked.args ≡ c.call.result = ap₂ (call_made c.args.library.now) (sym c.as_str.ensures) (sym c.as_slice.ensures) ∙ sym c.call.ensures in
    let gives : f i asked ≡ Ok c.in-Ok.call = ap (in_call c.args.client i) (made ∙ c.in-Ok.is) in
    ap (λ calls. after_those calls (each_given f (i + 1) (drop (i + 1) script))) c.in_ok-push-in-Ok.ensures.items
    ∙ sym (after_those-next f c.loop-index.calls.items i asked (drop (i + 1) script) c.in-Ok.call gives)
    ∙ sym (ap (λ xs. after_those c.loop-index.calls.items (each_given f i xs)) (drop-next script i asked c.loop-index-test.true c.index-script-index.is))
    ∙ c.loop-index.invariant
