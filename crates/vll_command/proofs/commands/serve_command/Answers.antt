use Rattle.std.proofs.Common.{◌≡◌, ◌∙◌, ◌∷◌, ◌||◌, [], ap, ap₂, codes, false, true}
use Rattle.clap.specs.Simple.{app_of_fields, new_app, new_rule, new_shape, with_rule}
use Rattle.clap.specs.Words.{Rule, app_of, rule_of}
use Rattle.clap.specs.declared.builder.command.Command.TheViews.{out-Command}
use Rattle.vll_command.proofs.commands.serve_command.Goals as goal

pub returns : goal.returns
returns c =
    let app : app_of c.after_help.result ≡ new_app (codes "serve") = ap app_of_fields c.after_help.ensures ∙ ap app_of_fields c.about.ensures ∙ c.new-2.ensures.app in
    let plain : (out-Command c.after_help.result).has_globals ≡ false = ap (λ f. f.has_globals) c.after_help.ensures ∙ ap (λ f. f.has_globals) c.about.ensures ∙ c.new-2.ensures.local in
    let file : rule_of c.help-file.result ≡ record (new_rule (codes "FILE")) { required = true } =
    ap rule_of c.help-file.ensures ∙ ap rule_of c.required.ensures ∙ ap (λ (r : Rule). record r { required = true }) c.new.ensures.rule in
    let own : c.help-file.result.global ≡ false = ap (λ a. a.global) c.help-file.ensures ∙ ap (λ a. a.global) c.required.ensures ∙ c.new.ensures.optional.1 in
    c.with_engine_options.ensures (record (new_shape (codes "serve")) { rules = record (new_rule (codes "FILE")) { required = true } ∷ [] })
    (c.in_ok-command.ensures.shape own ∙ ap₂ with_rule app file, c.in_ok-command.ensures.globals ∙ ap₂ (λ a b. a || b) plain own)
