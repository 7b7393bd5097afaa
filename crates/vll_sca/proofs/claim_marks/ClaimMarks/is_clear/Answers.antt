use Rattle.std.proofs.Common.{rules}
use Rattle.vll_sca.proofs.claim_marks.ClaimMarks.is_clear.Goals as goal

pub returns-else-matches : goal.returns-else-matches
returns-else-matches g c = search rules
