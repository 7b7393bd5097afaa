-- The statements before this one pass, and no step is left.
use Rattle.std.proofs.Common.{◌≡◌, ◌≤◌, suc, drop, max, min}
use Rattle.vll_proc.specs.declared.limits.TheConstants.{MOST_DEPTH}
use Rattle.vll_proc.specs.WellFormed.{body_depth}
use Rattle.vll_check.specs.Pieces.{after_list, list_passes}
use Rattle.vll_fault_path.specs.Parts.{first_part, statements_from}
use Rattle.vll_fault_path.proofs.part.+search_statement.Given as goal

abbrev pub invariant-search_list-loop-i : goal.invariant-search_list-loop-i
invariant-search_list-loop-i l = record {
  steps : l.steps.items ≡ l.fn.steps.items;
  parts : first_part l.test l.before (statements_from l.i (drop l.i l.list)) ≡ first_part l.test l.fn.start (statements_from 0 l.list);
  passes : list_passes l.test.fault l.test.procedure l.before (drop l.i l.list) ≡ list_passes l.test.fault l.test.procedure l.fn.start l.list;
  after : after_list l.before (drop l.i l.list) ≡ after_list l.fn.start l.list;
  few : l.depth ≤ suc MOST_DEPTH;
  depth : min (max l.depth (body_depth (drop l.i l.list))) (suc MOST_DEPTH) ≡ min (body_depth l.list) (suc MOST_DEPTH);
}
