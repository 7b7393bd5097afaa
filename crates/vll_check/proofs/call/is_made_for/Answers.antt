use Rattle.std.proofs.Common.{◌≡◌, ◌∙◌, Some, Ok, ap, sym, take, rules}
use Rattle.vll_check.proofs.Common.{call_to}
use Rattle.vll_check.proofs.Fitting.{made_for}
use Rattle.vll_check.proofs.call.is_made_for.Goals as goal

pub returns-in-Ok : goal.returns-in-Ok
returns-in-Ok c =
    let n = c.args.records in
    let p = c.args.procedure.now in
    let call = c.args.call.now in
    let args = c.in-Some.args.now in
    let made = c.in-Ok.made in
    let own : args ≡ take call.arg_count call.args = search rules in
    let answer : call_to n call.number (Some p) args ≡ Ok made = search rules in (
      λ t. let same : made ≡ call = search rules in (args, answer ∙ ap Ok same),
      λ h. let same : made ≡ call = made_for n p call made (ap (call_to n call.number (Some p)) (sym own) ∙ answer) h in search rules,
    )
