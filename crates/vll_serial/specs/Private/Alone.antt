-- What a call leaves of the records that it does not claim.
use Rattle.std.specs.Prelude.{◌≡◌, ℕ, List, length, None, slice_index}
use Rattle.vll_record.specs.declared.claim.Claim.{Claim}
use Rattle.vll_record.specs.Claim.{mode_on}

-- there are as many records as before, and those without a claim have the same values
pub record StaysElsewhere (claims : List Claim) (before after : List ℕ) : Type 0 where
  pub number : length after ≡ length before
  pub others : (r : ℕ) → mode_on claims r ≡ None → slice_index after r ≡ slice_index before r
