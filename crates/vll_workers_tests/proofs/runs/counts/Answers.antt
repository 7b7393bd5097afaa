use Rattle.vll_tokens.proofs.Owned.{back_fits}
use Rattle.vll_workers_tests.proofs.runs.counts.Goals as goal

pub are_counted-requires : goal.are_counted-requires
are_counted-requires g c = back_fits g.N.Name.engine c.in_ok-tokens.tokens.items c.in-Ok.tokens.items c.in_ok-tokens.ensures.fit c.in-Ok.ensures.ok.0
