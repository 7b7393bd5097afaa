use Rattle.std.proofs.Common.{None, Ok, Err, IfOk, IfSome, refl, string_bytes, subst}
use Rattle.vll_scenario.proofs.Results.{ok_before}
use Rattle.vll_explain.specs.Explained.{IsTold}
use Rattle.vll_explain.proofs.explaining.explained.Goals as goal

-- the scenario that was read is the witness
pub returns-in_ok-text-in-Ok-clause-told : goal.returns-in_ok-text-in-Ok-clause-told
returns-in_ok-text-in-Ok-clause-told g c =
    let scenario = c.in-Ok.parsed.scenario in
    let was = ok_before c.text_of_scenario.result c.map_err.result _ c.in_ok-text-in-Ok.text c.map_err.ensures.cases c.map_err.ensures.variant c.in_ok-text-in-Ok.was in
    let told = subst (λ r. IfOk r (λ text. IsTold None (Ok scenario) (string_bytes text))) was c.text_of_scenario.ensures in
    record { read = Ok scenario; is_read = c.in-Ok.ensures.read.0; is_fault = refl; text = string_bytes c.in_ok-text-in-Ok.text; told = told; holds = refl }

-- an explanation is about the fault that was read
pub returns-in-Some-clause-told : goal.returns-in-Some-clause-told
returns-in-Some-clause-told g c =
    let known = g.S.Source.remaining c.args.reader.now in
    let r = c.in-Err.field-0 in
    let told = subst (λ text. IfSome text (λ t. IsTold known (Err r.fault) (string_bytes t))) c.in-Some.is c.in-Err.ensures.read.1 in
    record { read = Err r.fault; is_read = c.in-Err.ensures.read.0; is_fault = refl; text = string_bytes c.in-Some.text; told = told; holds = refl }
