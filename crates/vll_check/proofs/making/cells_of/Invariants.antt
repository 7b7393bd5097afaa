use Rattle.std.proofs.Common.{◌≡◌, map, take}
use Rattle.vll_check.proofs.Common.{MOST_CLAIMS, laid, cell_of}
use Rattle.vll_check.proofs.making.cells_of.Given as goal

abbrev pub invariant-loop-i : goal.invariant-loop-i
invariant-loop-i l = l.cells ≡ laid MOST_CLAIMS 0 (map (cell_of l.naming.records l.claims l.naming.args.now l.naming.found) (take l.i l.keys))
