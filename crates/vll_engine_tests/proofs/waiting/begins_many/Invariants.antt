use Rattle.std.proofs.Common.{◌≡◌}
use Rattle.vll_engine_tests.proofs.waiting.begins_many.Given as goal

abbrev pub invariant-loop-ticket : goal.invariant-loop-ticket
invariant-loop-ticket g l = l.session.table ≡ g.N.Name.engine.table
