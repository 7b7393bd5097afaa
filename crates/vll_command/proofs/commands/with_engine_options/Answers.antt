use Rattle.std.proofs.Common.{◌≡◌, ◌∙◌, ◌∷◌, ◌||◌, [], List, ap, ap₂, append_assoc, false}
use Rattle.std.proofs.lemmas.Result.{IfOk-weaker}
use Rattle.clap.specs.Simple.{with_rule}
use Rattle.clap.specs.Words.{App, Rule}
use Rattle.clap.specs.declared.builder.command.Command.TheViews.{out-Command}
use Rattle.vll_command.specs.CommandLine.{bits, cap}
use Rattle.vll_command.proofs.commands.with_engine_options.Goals as goal

pub returns : goal.returns
returns c s made =
    let one = c.in_ok-arg.ensures.shape c.number-cap.ensures.1 ∙ ap₂ with_rule made.0 c.number-cap.ensures.0 in
    let plain : (out-Command c.in_ok-arg.field-0).has_globals ≡ false = c.in_ok-arg.ensures.globals ∙ ap₂ (λ a b. a || b) made.1 c.number-cap.ensures.1 in
    let with : List Rule → App = λ rules. record { top = record s { rules = rules }; subs = [] } in
    IfOk-weaker c.arg-2.result _ _
    (λ m adds. (
      adds.shape c.number-bits.ensures.1 ∙ ap₂ with_rule one c.number-bits.ensures.0 ∙ ap with (append_assoc s.rules (cap ∷ []) (bits ∷ [])),
      adds.globals ∙ ap₂ (λ a b. a || b) plain c.number-bits.ensures.1,
    ))
    c.arg-2.ensures
