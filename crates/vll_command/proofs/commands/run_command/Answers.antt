use Rattle.std.proofs.Common.{◌≡◌, ◌∙◌, ap, codes, false}
use Rattle.clap.specs.Simple.{app_of_fields, new_app, new_shape}
use Rattle.clap.specs.Words.{app_of}
use Rattle.clap.specs.declared.builder.command.Command.TheViews.{out-Command}
use Rattle.vll_command.proofs.commands.run_command.Goals as goal

pub returns : goal.returns
returns c =
    let app : app_of c.after_help-command.result ≡ new_app (codes "run") = ap app_of_fields c.after_help-command.ensures ∙ ap app_of_fields c.about.ensures ∙ c.new.ensures.app in
    let plain : (out-Command c.after_help-command.result).has_globals ≡ false = ap (λ f. f.has_globals) c.after_help-command.ensures ∙ ap (λ f. f.has_globals) c.about.ensures ∙ c.new.ensures.local in
    c.with_run_options.ensures (new_shape (codes "run")) (app, plain)
