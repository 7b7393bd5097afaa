use Rattle.vll_record.proofs.ClaimsOf.{claims_of-unique}
use Rattle.vll_record.proofs.laws.claims_are_the_only_ones.Goals as goal

pub returns : goal.returns
returns c = claims_of-unique
