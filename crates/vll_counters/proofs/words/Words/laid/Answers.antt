use Rattle.std.proofs.Common.{ap, ◌∙◌}
use Rattle.vll_counters.proofs.Seats.{starts_at}
use Rattle.vll_counters.proofs.words.Words.laid.Goals as goal

pub of_words-requires : goal.of_words-requires
of_words-requires c = starts_at (record { library = c.of.result; records = c.of-2.result }) c.args.records.now _ _ c.lay.ensures.words c.lay.ensures.list c.as_slice.ensures.value (ap (λ v. v.items) c.of-2.ensures ∙ c.requires.items)
