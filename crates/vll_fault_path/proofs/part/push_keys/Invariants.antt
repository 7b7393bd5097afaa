-- The key positions before this one pass, and no step has been added.
use Rattle.std.proofs.Common.{◌≡◌, drop}
use Rattle.vll_fault_path.specs.Parts.{first_part, keys_from}
use Rattle.vll_fault_path.proofs.part.push_keys.Given as goal

abbrev pub invariant-loop-i : goal.invariant-loop-i
invariant-loop-i l = record {
  steps : l.steps.items ≡ l.fn.steps.items;
  parts : first_part l.test l.before (keys_from l.i (drop l.i l.keys)) ≡ first_part l.test l.fn.start (keys_from 0 l.keys);
}
