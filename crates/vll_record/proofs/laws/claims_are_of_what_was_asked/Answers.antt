use Rattle.vll_record.proofs.ClaimsOf.{AreClaimsOf-claims_of}
use Rattle.vll_record.proofs.laws.claims_are_of_what_was_asked.Goals as goal

pub returns : goal.returns
returns c = AreClaimsOf-claims_of
