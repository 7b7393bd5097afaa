-- The place is marked, or cleared, in the array of its mode.
use Rattle.vll_sca.proofs.claim_marks.ClaimMarks.mark_at.Goals as goal

pub returns-in-Write : goal.returns-in-Write
returns-in-Write c = rw (c.in-Write.is, c.put.ensures)

pub returns-in-Read : goal.returns-in-Read
returns-in-Read c = rw (c.in-Read.is, c.put-in-Read.ensures)
