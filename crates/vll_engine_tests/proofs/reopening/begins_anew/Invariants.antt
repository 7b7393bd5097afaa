use Rattle.std.proofs.Common.{◌≡◌, ◌+◌}
use Rattle.vll_engine_tests.proofs.reopening.begins_anew.Given as goal

abbrev pub invariant-loop-ticket : goal.invariant-loop-ticket
invariant-loop-ticket g l = (l.one.table ≡ g.N.Name.engine.table) × (l.output ≡ 7 + l.ticket)
