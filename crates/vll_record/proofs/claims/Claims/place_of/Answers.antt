use Rattle.std.proofs.Common.{◌≡◌, ◌∙◌, ℕ, ap₂, rules, List, unwrap_or, nat_le, Option}
use Rattle.vll_record.proofs.Common.{position, Claim}
use Rattle.std.proofs.lemmas.Iterator.Consumers.{YieldsList-from_first}
use Rattle.std.proofs.lemmas.Iterator.Search.{position_from_yields_List}
use borrow.Author.Tests.{tests}
use Rattle.vll_record.proofs.WithClaim.{unwrap_or-position}
use Rattle.vll_record.proofs.claims.Claims.place_of.Goals as goal

pub returns-clause-place : goal.returns-clause-place
returns-clause-place c =
    let cs : List Claim = c.args.self.now in
    let found : c.position.result ≡ position (λ (d : Claim). nat_le c.args.id d.id) cs =
    position_from_yields_List (λ (d : Claim). nat_le c.args.id d.id) _ _ c.position.result c.position.ensures.ran
    (YieldsList-from_first (λ d. d) (λ (rest : List Claim). rest) cs c.iter.ensures) (λ x b q k. search (rules, tests)) in
    c.unwrap_or.ensures
    ∙ ap₂ (λ (o : Option ℕ) (n : ℕ). unwrap_or o n) found c.len-len.ensures.value
    ∙ unwrap_or-position (λ (d : Claim). nat_le c.args.id d.id) cs
