use Rattle.std.proofs.Common.{◌∙◌, sym, ap, suc, ◌∷◌, drop, add-one}
use Rattle.vll_record.proofs.Common.{get_or_from_slice_get, slice_get_within, drop-cons}
use Rattle.vll_record.proofs.claims.iter.ClaimsIterIterator.next.Goals as goal

pub returns-clause-steps : goal.returns-clause-steps
returns-clause-steps c =
    let cs = c.self.inside.claims.now in
    let i = c.self.inside.next in
    let claim = c.in_ok-claim.claim in
    let at = sym c.get.ensures ∙ c.in_ok-claim.was in
    let lt = slice_get_within cs i claim at in
    rw (← c.self.view_is, add-one) (drop-cons cs i claim lt ∙ ap (λ x. x ∷ drop (suc i) cs) (get_or_from_slice_get cs i claim claim at))
