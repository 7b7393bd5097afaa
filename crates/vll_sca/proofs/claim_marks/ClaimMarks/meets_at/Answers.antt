-- What the bits of the place say, by the mode.
use Rattle.std.proofs.Common.{◌∙◌, sym}
use Rattle.vll_sca.proofs.Common.{or_left}
use Rattle.vll_sca.proofs.Meeting.{or_false}
use Rattle.vll_sca.proofs.claim_marks.ClaimMarks.meets_at.Goals as goal

pub returns-then-is_set : goal.returns-then-is_set
returns-then-is_set c = rw (c.in-Write.is) (c.if-is_set.true ∙ sym (or_left _ _ (sym c.is_set.ensures ∙ c.if-is_set.true)))

pub returns-else-is_set : goal.returns-else-is_set
returns-else-is_set c = rw (c.in-Write.is, ← c.is_set.ensures, c.if-is_set.false) (c.is_set-else-is_set.ensures)

pub returns-in-Read : goal.returns-in-Read
returns-in-Read c = rw (c.in-Read.is) (c.is_set-in-Read.ensures ∙ sym (or_false _))
