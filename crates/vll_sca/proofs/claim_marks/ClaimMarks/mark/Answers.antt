use Rattle.std.proofs.Common.{rules}
use Rattle.vll_sca.proofs.claim_marks.ClaimMarks.mark.Goals as goal

pub returns-then-not-matches : goal.returns-then-not-matches
returns-then-not-matches g c = search rules

pub returns-else-not-matches : goal.returns-else-not-matches
returns-else-not-matches g c = search rules
