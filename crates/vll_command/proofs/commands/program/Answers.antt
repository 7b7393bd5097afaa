use Rattle.std.proofs.Common.{◌≡◌, ◌∙◌, ap, ap₂, codes, true}
use Rattle.std.proofs.lemmas.Result.{IfOk-weaker}
use Rattle.clap.specs.Simple.{app_of_fields, new_app, on_top, with_subcommand}
use Rattle.clap.specs.Words.{App, app_of}
use Rattle.vll_command.proofs.commands.program.Goals as goal

-- what a setting of the command changes, and each of its commands, in turn
pub returns : goal.returns
returns c =
    let top = λ (a : App). a.top in
    let about : app_of c.about.result ≡ new_app (codes "vll") = ap app_of_fields c.about.ensures ∙ c.new.ensures.app in
    let version = ap app_of_fields c.version.ensures ∙ ap (on_top (λ s. record s { has_version = true })) about in
    let after = ap app_of_fields c.after_help.ensures ∙ version in
    let required = ap app_of_fields c.subcommand_required-command.ensures ∙ ap (on_top (λ s. record s { subcommand_required = true })) after in
    let one = c.in_ok-command.ensures.shape c.in_ok-run_command.ensures.1 ∙ ap₂ with_subcommand required (ap top c.in_ok-run_command.ensures.0) in
    let two = c.in_ok-command-2.ensures.shape c.in_ok-serve_command.ensures.1 ∙ ap₂ with_subcommand one (ap top c.in_ok-serve_command.ensures.0) in
    let three = c.in_ok-command-3.ensures.shape c.in_ok-replay_command.ensures.1 ∙ ap₂ with_subcommand two (ap top c.in_ok-replay_command.ensures.0) in
    let four = c.in_ok-command-4.ensures.shape c.in_ok-explain_command.ensures.1 ∙ ap₂ with_subcommand three (ap top c.in_ok-explain_command.ensures.0) in
    let five = c.in_ok-command-5.ensures.shape c.in_ok-draw_command.ensures.1 ∙ ap₂ with_subcommand four (ap top c.in_ok-draw_command.ensures.0) in
    IfOk-weaker c.subcommand-6.result _ _ (λ m adds. adds.shape c.in_ok-trace_command.ensures.1 ∙ ap₂ with_subcommand five (ap top c.in_ok-trace_command.ensures.0)) c.subcommand-6.ensures
