use Rattle.std.proofs.Common.{arith}
use Rattle.std.proofs.lemmas.Grind.{common_steps}
use Rattle.vll_replay.proofs.watching.push_event_lines.Goals as goal

pub returns-clause-core : goal.returns-clause-core
returns-clause-core g c = grind (arith, common_steps)
