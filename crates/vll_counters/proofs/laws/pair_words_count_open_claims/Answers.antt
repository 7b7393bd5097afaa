use Rattle.vll_counters.proofs.Open.{pairs_count}
use Rattle.vll_counters.proofs.laws.pair_words_count_open_claims.Goals as goal

pub returns : goal.returns
returns c = pairs_count
