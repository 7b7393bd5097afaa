use Rattle.std.proofs.Common.{rules}
use Rattle.vll_lines.proofs.reading.call_asked.Goals as goal

pub returns-then-client-clients : goal.returns-then-client-clients
returns-then-client-clients c = search rules

pub returns-in-Ok : goal.returns-in-Ok
returns-in-Ok c = search rules

pub returns : goal.returns
returns c = search rules
