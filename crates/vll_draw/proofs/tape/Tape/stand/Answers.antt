use Rattle.std.proofs.Common.{rules}
use Rattle.vll_draw.proofs.tape.Tape.stand.Goals as goal

pub returns-clause-stands : goal.returns-clause-stands
returns-clause-stands c = search rules
