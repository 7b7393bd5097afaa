use Rattle.std.proofs.Common.{◌≡◌, List, [], ◌∷◌, length, Some, slice_get, sym, ap, ◌∙◌, arith}
use Rattle.std.proofs.lemmas.Option.{same_Some}
use Rattle.vll_record.specs.declared.claim.Claim.{Claim}
use Rattle.vll_counters_tests.proofs.words.only_claim.Goals as goal

only : {A : Type 0} (xs : List A) (x : A) → slice_get xs 0 ≡ Some x → length xs ≡ 1 → xs ≡ x ∷ []
only [] x at one = absurd (omega (arith, one))
only (y ∷ []) x at one = ap (λ z. z ∷ []) (same_Some y x at)
only (y ∷ z ∷ ys) x at one = absurd (omega (arith, one))

pub returns : goal.returns
returns c = (
  only c.args.call.now.claims c.in_ok-claim.claim (sym c.get.ensures ∙ c.in_ok-claim.was) (sym c.len.ensures.value ∙ c.if-len-ne1.false),
  ap (λ (claim : Claim). claim.id) (sym c.claim.view_is) ∙ c.if-claim-ne0.false,
)
