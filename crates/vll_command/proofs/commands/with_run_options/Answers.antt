use Rattle.std.proofs.Common.{◌≡◌, ◌∙◌, ◌∷◌, ◌++◌, ◌||◌, [], IfOk, List, ap, ap₂, append_assoc, codes, false, subst}
use Rattle.clap.specs.Simple.{with_rule}
use Rattle.clap.specs.Words.{Rule, rule_of}
use Rattle.clap.specs.declared.builder.command.Command.TheViews.{out-Command}
use Rattle.vll_core.specs.declared.config.TheConstants.{MOST_WORKERS}
use Rattle.vll_command.specs.CommandLine.{bits, cap, file, option}
use Rattle.vll_command.specs.Private.Made.{IsMade}
use Rattle.vll_command.proofs.commands.with_run_options.Goals as goal

pub returns : goal.returns
returns c s made =
    let one = c.in_ok-command.ensures.shape c.file_argument.ensures.1 ∙ ap₂ with_rule made.0 c.file_argument.ensures.0 in
    let plain : (out-Command c.in_ok-command.command).has_globals ≡ false = c.in_ok-command.ensures.globals ∙ ap₂ (λ a b. a || b) made.1 c.file_argument.ensures.1 in
    let number = option (codes "workers") 1 MOST_WORKERS (codes "4" ∷ []) in
    let workers : rule_of c.default_value-workers.result ≡ number =
    ap rule_of c.default_value-workers.ensures ∙ ap (λ (r : Rule). record r { defaults = codes "4" ∷ [] }) c.number.ensures.0 in
    let own : c.default_value-workers.result.global ≡ false = ap (λ a. a.global) c.default_value-workers.ensures ∙ c.number.ensures.1 in
    let engine = cap ∷ bits ∷ [] in
    let given = c.with_engine_options.ensures (record s { rules = (s.rules ++ file ∷ []) ++ number ∷ [] })
    (c.in_ok-command-2.ensures.shape own ∙ ap₂ with_rule one workers, c.in_ok-command-2.ensures.globals ∙ ap₂ (λ a b. a || b) plain own) in
    subst (λ (rules : List Rule). IfOk c.with_engine_options.result (IsMade (record s { rules = rules })))
    (append_assoc (s.rules ++ file ∷ []) (number ∷ []) engine ∙ append_assoc s.rules (file ∷ []) (number ∷ engine)) given
