use Rattle.std.proofs.Common.{◌≡◌, ◌∙◌, [], IfOk, Result, Ok, Err, IfErr, ap, map, string_bytes, subst}
use Rattle.std.proofs.lemmas.Result.{IfOk-weaker}
use Rattle.clap.specs.Faults.{fault_of}
use Rattle.clap.specs.Words.{App, FailsBy, HasKind, Kinds, app_of, is_simple, is_simple_and_free, subcommand_of}
use Rattle.clap.specs.declared.error.Error.{Error}
use Rattle.vll_command.proofs.commands.matches_of.Goals as goal

no_kinds : {T : Type 0} (kinds : Kinds) (r : Result T Error) → FailsBy kinds r → IfOk r (λ _. kinds ≡ [])
no_kinds kinds (Ok x) fails = fails
no_kinds kinds (Err e) fails = tt

fails_with : {T : Type 0} (kinds : Kinds) (r : Result T Error) → FailsBy kinds r → IfErr r (HasKind kinds)
fails_with kinds (Ok x) fails = tt
fails_with kinds (Err e) fails = fails

pub returns-clause-taken : goal.returns-clause-taken
returns-clause-taken c =
    let is = c.in_ok-command.ensures in
    let words = map string_bytes c.args.words.now in
    let taken = no_kinds (fault_of (app_of c.in_ok-command.command) words) c.try_get_matches_from.result (c.try_get_matches_from.ensures.kinds (ap is_simple_and_free is)) in
    subst (λ (a : App). IfOk c.try_get_matches_from.result (λ _. fault_of a words ≡ [])) is taken

pub returns-clause-entered : goal.returns-clause-entered
returns-clause-entered c =
    let is = c.in_ok-command.ensures in
    let words = map string_bytes c.args.words.now in
    IfOk-weaker c.try_get_matches_from.result _ _ (λ m h. (h (ap is_simple is)).1 ∙ ap (λ (a : App). subcommand_of a words) is) c.try_get_matches_from.ensures.matches

pub returns-clause-told : goal.returns-clause-told
returns-clause-told c =
    let is = c.in_ok-command.ensures in
    let words = map string_bytes c.args.words.now in
    let told = fails_with (fault_of (app_of c.in_ok-command.command) words) c.try_get_matches_from.result (c.try_get_matches_from.ensures.kinds (ap is_simple_and_free is)) in
    subst (λ (a : App). IfErr c.try_get_matches_from.result (HasKind (fault_of a words))) is told
