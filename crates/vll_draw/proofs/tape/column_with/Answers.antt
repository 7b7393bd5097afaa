use Rattle.std.proofs.Common.{rules}
use Rattle.vll_draw.proofs.tape.column_with.Goals as goal

pub returns-clause-answer : goal.returns-clause-answer
returns-clause-answer c = search rules
