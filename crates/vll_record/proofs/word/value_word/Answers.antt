use Rattle.std.proofs.Common.{rules}
use Rattle.vll_record.proofs.word.value_word.Goals as goal

pub returns : goal.returns
returns c = search rules
