use Rattle.std.proofs.Common.{◌++◌, ◌∷◌, [], ◌∙◌, List, ap, refl}
use Rattle.std.proofs.lemmas.List.Elements.{All-nil}
use Rattle.vll_tokens.specs.Shown.{TokenShown}
use Rattle.vll_tokens.proofs.Distinct.{distinct_none, distinct_push}
use Rattle.vll_tokens.proofs.Fit.{fit_push}
use Rattle.vll_workers_tests.proofs.runs.runs_through.Goals as goal

pub run-requires-clause-fit : goal.run-requires-clause-fit
run-requires-clause-fit g c κs within =
    fit_push g.N.Name.engine [] c.push.new.self.items c.in_ok-token.token
    (c.in_ok-push.ensures.items ∙ ap (λ (ts : List TokenShown). ts ++ c.in_ok-token.token ∷ []) c.new-tokens.ensures.items) (All-nil _) c.in_ok-token.ensures.fit

pub run-requires-clause-distinct : goal.run-requires-clause-distinct
run-requires-clause-distinct g c κs within =
    distinct_push _ [] c.push.new.self.items c.in_ok-token.token refl
    (c.in_ok-push.ensures.items ∙ ap (λ (ts : List TokenShown). ts ++ c.in_ok-token.token ∷ []) c.new-tokens.ensures.items) (All-nil _) (distinct_none [] refl)
