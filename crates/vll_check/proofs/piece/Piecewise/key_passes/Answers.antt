use Rattle.std.proofs.Common.{rules}
use Rattle.vll_check.proofs.piece.Piecewise.key_passes.Goals as goal

pub returns-else-not-before : goal.returns-else-not-before
returns-else-not-before c = search rules
