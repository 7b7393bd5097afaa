use Rattle.std.proofs.Common.{rules}
use Rattle.vll_queue.proofs.session.Session.client.Goals as goal

pub returns : goal.returns
returns c = search rules
