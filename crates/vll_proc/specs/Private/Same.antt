-- The test of two calls is an equality, as the test of each part is.
use Rattle.std.specs.Cmp.{IsPartialEquivalence, partial_equiv_from_equiv, nat_eq_equiv, bool_eq_equiv, and_per, on_per}
use Rattle.std.specs.Cmp.Lexicographic.{pointwise, lists_per, options_equiv}
use Rattle.std.specs.Option.{option_eq}
use Rattle.std.specs.Prelude.{nat_eq}
use Rattle.vll_record.specs.declared.claim.Claim.{Claim}
use Rattle.vll_record.specs.Headline.Claim.{is_write}
use Rattle.vll_record.specs.Claim.{is_same_claim}
use Rattle.vll_proc.specs.declared.call.Call.{Call}
use Rattle.vll_proc.specs.Same.{is_same_call}

found : IsPartialEquivalence (option_eq nat_eq)
found = partial_equiv_from_equiv (options_equiv nat_eq_equiv)

numbers : IsPartialEquivalence nat_eq
numbers = partial_equiv_from_equiv nat_eq_equiv

claims : IsPartialEquivalence (pointwise is_same_claim)
claims = lists_per (and_per (on_per (λ (c : Claim). c.id) numbers) (on_per is_write (partial_equiv_from_equiv bool_eq_equiv)))

pub is_same_call-laws : IsPartialEquivalence is_same_call
is_same_call-laws =
    and_per (on_per (λ (c : Call). c.number) numbers)
    (and_per (on_per (λ (c : Call). c.arg_count) numbers)
    (and_per (on_per (λ (c : Call). c.args) (lists_per numbers))
    (and_per (on_per (λ (c : Call). c.found) found)
    (and_per (on_per (λ (c : Call). c.cells) (lists_per numbers))
    (on_per (λ (c : Call). c.claims) claims)))))
