-- What follows if no fault applies at an opening.
use Rattle.std.proofs.Common.{◌≡◌, ℕ, ◌≤◌, Bool, true, false, nat_le, Option, Some, None, if◌then◌else◌, refl}
use Rattle.vll_core.proofs.Common.{leb-true, MOST_RECORDS, MOST_CALLS, MOST_WAITING, Config, is_up_to, config_fault, open_fault}
use Rattle.vll_sca.specs.declared.bits.TheConstants.{MOST_BITS}
use Rattle.vll_core.specs.declared.config.OpenFault.{OpenFault}
use Rattle.vll_core.specs.declared.config.OpenFault.TheVariants.{Records, Limit, Cap, Bits}
use Rattle.vll_core.proofs.Tests.{both_true}

-- a number from 1 to the most
pub record IsUpTo (most n : ℕ) : Type 0 where
  pub some : 1 ≤ n
  pub few : n ≤ most

up_to_says : (most n : ℕ) → is_up_to most n ≡ true → IsUpTo most n
up_to_says most n h = let both = both_true (nat_le 1 n) (nat_le n most) h in record { some = leb-true 1 n both.0; few = leb-true n most both.1 }

-- what is chosen is within its bounds
pub record IsAllowed (config : Config) : Type 0 where
  pub limit : IsUpTo MOST_CALLS config.limit
  pub cap : IsUpTo MOST_WAITING config.cap
  pub bits : IsUpTo MOST_BITS config.bits

-- if a test and what follows it give no fault, the test held and the rest has no fault
passed : (b : Bool) (why : OpenFault) (rest : Option OpenFault) → (if b then rest else Some why) ≡ None → (b ≡ true) × (rest ≡ None)
passed true why rest h = (refl, h)
passed false why rest h = absurd (cc h)

pub allowed : (config : Config) → config_fault config ≡ None → IsAllowed config
allowed config h =
    let limit = passed (is_up_to MOST_CALLS config.limit) Limit _ h in
    let cap = passed (is_up_to MOST_WAITING config.cap) Cap _ limit.1 in
    let bits = passed (is_up_to MOST_BITS config.bits) Bits None cap.1 in
    record { limit = up_to_says _ _ limit.0; cap = up_to_says _ _ cap.0; bits = up_to_says _ _ bits.0 }

-- where nothing is refused for its records or for what is chosen
pub record IsOpenable (records : ℕ) (config : Config) : Type 0 where
  pub records_are : IsUpTo MOST_RECORDS records
  pub config_is : config_fault config ≡ None

pub openable : (records : ℕ) (config : Config) → open_fault records config ≡ None → IsOpenable records config
openable records config h = let both = passed (is_up_to MOST_RECORDS records) Records _ h in record { records_are = up_to_says _ _ both.0; config_is = both.1 }
