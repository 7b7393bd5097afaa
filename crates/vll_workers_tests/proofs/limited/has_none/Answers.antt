use Rattle.vll_tokens.proofs.Distinct.{distinct_none}
use Rattle.vll_workers_tests.proofs.limited.has_none.Goals as goal

pub run_limited-requires-clause-distinct : goal.run_limited-requires-clause-distinct
run_limited-requires-clause-distinct g c κs within = distinct_none c.new-tokens.result.items c.new-tokens.ensures.items
