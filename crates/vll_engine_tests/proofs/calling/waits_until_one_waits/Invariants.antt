use Rattle.std.proofs.Common.{◌≡◌}
use Rattle.vll_engine_tests.proofs.calling.waits_until_one_waits.Given as goal

abbrev pub invariant-loop : goal.invariant-loop
invariant-loop g l = l.session.table ≡ g.N.Name.engine.table
