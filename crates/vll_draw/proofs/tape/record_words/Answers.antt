use Rattle.std.proofs.Common.{rules}
use Rattle.vll_draw.proofs.tape.record_words.Goals as goal

pub returns : goal.returns
returns c = search rules
