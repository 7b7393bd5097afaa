use Rattle.std.proofs.Common.{rules}
use Rattle.vll_counters.proofs.words.Words.look.Goals as goal

pub peek-requires : goal.peek-requires
peek-requires c = search rules
