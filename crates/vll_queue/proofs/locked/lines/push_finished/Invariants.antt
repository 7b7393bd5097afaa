use Rattle.std.proofs.Common.{◌≡◌, ◌++◌, ◌-◌, drop, length, vec_capacity}
use Rattle.vll_queue.specs.Finished.{finished}
use Rattle.vll_queue.proofs.locked.lines.push_finished.Given as goal

-- what is still to be appended to what is there is all
abbrev pub invariant-loop-line : goal.invariant-loop-line
invariant-loop-line l = record {
  items : l.fn.lines.items ++ finished (vec_capacity l.fn.lines - length l.fn.lines.items) l.left ≡ l.lines.items ++ finished (vec_capacity l.lines - length l.lines.items) (drop l.line-index l.left);
  room : vec_capacity l.lines ≡ vec_capacity l.fn.lines;
}
