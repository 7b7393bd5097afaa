use Rattle.std.proofs.Common.{◌∙◌, ap, length}
use Rattle.vll_replay.proofs.Standing.{journal-length}
use Rattle.vll_draw.proofs.tape.next_ticket.Goals as goal

pub returns : goal.returns
returns c = ap length c.journal.ensures.lines ∙ journal-length c.args.core.now.base c.args.core.now.state
