-- The statements before the current one in the list pass.
use Rattle.std.proofs.Common.{◌≡◌, true, take}
use Rattle.vll_check.proofs.Common.{list_all, throughout}
use Rattle.vll_check.proofs.walk.+throughout.Given as goal

abbrev pub invariant-list_throughout-loop-statement : goal.invariant-list_throughout-loop-statement
invariant-list_throughout-loop-statement g l = list_all (throughout (g.T.LeafTest.passes_leaf l.test) (g.T.Test.passes_statement l.test)) (take l.statement-index l.statements) ≡ true
