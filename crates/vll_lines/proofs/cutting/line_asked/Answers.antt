use Rattle.std.proofs.Common.{rules}
use Rattle.vll_lines.proofs.cutting.line_asked.Goals as goal

pub returns : goal.returns
returns c = search rules
