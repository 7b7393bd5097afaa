use Rattle.std.proofs.Common.{◌≡◌}
use Rattle.vll_workers_tests.proofs.staying.begins_and_finishes.Given as goal

abbrev pub invariant-loop-ticket : goal.invariant-loop-ticket
invariant-loop-ticket g l = l.session.table ≡ g.N.Name.engine.table
