use Rattle.std.proofs.Common.{◌++◌, ◌∷◌, [], ◌∙◌, List, Some, ap, refl}
use Rattle.std.proofs.lemmas.List.Elements.{All-nil, All-pop}
use Rattle.vll_tokens.specs.Shown.{TokenShown}
use Rattle.vll_tokens.specs.Tokens.{IsOf}
use Rattle.vll_tokens.proofs.Distinct.{distinct_none, distinct_push}
use Rattle.vll_tokens.proofs.Fit.{fit_push}
use Rattle.vll_tokens.proofs.Owned.{own_fits}
use Rattle.vll_workers_tests.proofs.resumed.after_run.Goals as goal

pub run-requires-clause-distinct : goal.run-requires-clause-distinct
run-requires-clause-distinct g c κs within =
    distinct_push _ [] c.push.new.self.items c.args.token refl
    (c.in_ok-push.ensures.items ∙ ap (λ (ts : List TokenShown). ts ++ c.args.token ∷ []) c.new-tokens.ensures.items) (All-nil _) (distinct_none [] refl)

-- the token that comes back is the one that was run
pub returns : goal.returns
returns g c =
    let e = g.N.Name.engine in
    let handed = c.push.new.self.items in
    let fit = fit_push e [] handed c.args.token (c.in_ok-push.ensures.items ∙ ap (λ (ts : List TokenShown). ts ++ c.args.token ∷ []) c.new-tokens.ensures.items) (All-nil _) c.requires in
    let own = All-pop (IsOf handed) c.in-Ok.tokens.items c.pop.new.self.items (Some c.in-Some.token) c.in-Some.ensures.items c.in-Ok.ensures.ok.0.own in
    own_fits e handed c.in-Some.token fit own.1
