use Rattle.std.proofs.Common.{◌≡◌, ◌≤◌, All, vec_capacity, vec_len}
use Rattle.vll_check.specs.Calls.{Fits}
use Rattle.vll_workers_tests.proofs.tokens.script.Given as goal

abbrev pub invariant-loop-index : goal.invariant-loop-index
invariant-loop-index g l = record {
  fits : All (Fits l.library) l.script.items;
  count : vec_len l.script ≡ l.index;
  room : l.times ≤ vec_capacity l.script;
}
