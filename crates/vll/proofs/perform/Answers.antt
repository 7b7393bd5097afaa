use Rattle.std.proofs.Common.{◌∙◌, Ok, ap, refl}
use Rattle.vll_command.specs.declared.action.Action.TheVariants as action
use Rattle.vll.proofs.Refused.{if_some, refused}
use Rattle.vll.proofs.perform.Goals as goal

pub returns-in-Err-scenario_of-clause-refused : goal.returns-in-Err-scenario_of-clause-refused
returns-in-Err-scenario_of-clause-refused g c =
    let none = c.in-Err-scenario_of.none in
    if_some none.refusal.text _ _ (λ t has. (action.Run c.in-Ok-Run.input c.in-Ok-Run.options, c.in-Ok-Run.is ∙ ap Ok c.in-Ok-Run.field-0-is, has))
    (refused c.in-Ok-Run.input _ _ _ none none.refusal.text refl c.in-Err-scenario_of.ensures)

pub returns-in-Err-scenario_of-2-clause-refused : goal.returns-in-Err-scenario_of-2-clause-refused
returns-in-Err-scenario_of-2-clause-refused g c =
    let none = c.in-Err-scenario_of-2.none in
    if_some none.refusal.text _ _ (λ t has. (action.Replay c.in-Ok-Replay.input, c.in-Ok-Replay.is ∙ ap Ok c.in-Ok-Replay.field-0-is, has))
    (refused c.in-Ok-Replay.input _ _ _ none none.refusal.text refl c.in-Err-scenario_of-2.ensures)

pub returns-in-Err-scenario_of-3-clause-refused : goal.returns-in-Err-scenario_of-3-clause-refused
returns-in-Err-scenario_of-3-clause-refused g c =
    let none = c.in-Err-scenario_of-3.none in
    if_some none.refusal.text _ _ (λ t has. (action.Draw c.in-Ok-Draw.input c.in-Ok-Draw.window, c.in-Ok-Draw.is ∙ ap Ok c.in-Ok-Draw.field-0-is, has))
    (refused c.in-Ok-Draw.input _ _ _ none none.refusal.text refl c.in-Err-scenario_of-3.ensures)

pub returns-in-Err-parsed_of-clause-refused : goal.returns-in-Err-parsed_of-clause-refused
returns-in-Err-parsed_of-clause-refused g c =
    let none = c.in-Err-parsed_of.none in
    if_some none.refusal.text _ _ (λ t has. (action.Trace c.in-Ok-Trace.input c.in-Ok-Trace.options, c.in-Ok-Trace.is ∙ ap Ok c.in-Ok-Trace.field-0-is, has))
    (refused c.in-Ok-Trace.input _ _ _ none none.refusal.text refl c.in-Err-parsed_of.ensures.parsed)
