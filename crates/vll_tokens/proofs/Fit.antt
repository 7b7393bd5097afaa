-- Tokens that fit, one by one.
use Rattle.std.proofs.Common.{◌≡◌, ◌++◌, ◌∷◌, [], List, sym, subst}
use Rattle.std.proofs.lemmas.List.Elements.{All-push}
use Rattle.vll_queue.specs.Shown.{Named}
use Rattle.vll_tokens.specs.Shown.{TokenShown}
use Rattle.vll_tokens.specs.Tokens.{AreFit, IsFit}

-- a token that fits, after tokens that fit
pub fit_push : (e : Named) (tokens new : List TokenShown) (t : TokenShown) → new ≡ tokens ++ t ∷ [] → AreFit e tokens → IsFit e t → AreFit e new
fit_push e tokens new t is old fit = subst (AreFit e) (sym is) (All-push (IsFit e) tokens t old fit)
