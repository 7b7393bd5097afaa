use Rattle.std.proofs.Common.{◌≡◌, ◌∙◌, ℕ, ap₂, rules, sym, List, unwrap_or, ◌==◌, Option}
use Rattle.vll_check.proofs.Common.{position, Claim}
use Rattle.std.proofs.lemmas.Iterator.Consumers.{YieldsList-from_first}
use Rattle.std.proofs.lemmas.Iterator.Search.{position_from_yields_List}
use borrow.Author.Tests.{tests}
use Rattle.vll_record.proofs.WithClaim.{unwrap_or-position}
use Rattle.vll_check.proofs.ShortLists.{place_of-first}
use Rattle.vll_check.proofs.making.place_of.Goals as goal

pub returns : goal.returns
returns c =
    let cs : List Claim = c.args.claims.now in
    let found : c.position.result ≡ position (λ (d : Claim). d.id == c.args.id) cs =
    position_from_yields_List (λ (d : Claim). d.id == c.args.id) _ _ c.position.result c.position.ensures.ran
    (YieldsList-from_first (λ d. d) (λ (rest : List Claim). rest) cs c.iter.ensures) (λ x b q k. search (rules, tests)) in
    c.unwrap_or.ensures
    ∙ ap₂ (λ (o : Option ℕ) (n : ℕ). unwrap_or o n) found c.len-none.ensures.value
    ∙ unwrap_or-position (λ (d : Claim). d.id == c.args.id) cs
    ∙ sym (place_of-first cs c.args.id)
