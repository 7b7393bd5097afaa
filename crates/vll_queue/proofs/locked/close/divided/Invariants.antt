use Rattle.std.proofs.Common.{◌≤◌, vec_capacity}
use Rattle.vll_queue.specs.Private.Divided.{AreDivided}
use Rattle.vll_queue.proofs.locked.close.divided.Given as goal

abbrev pub invariant-loop-r : goal.invariant-loop-r
invariant-loop-r l =
    (AreDivided l.r l.words l.records.items l.pairs.items) × (l.count ≤ vec_capacity l.records) × (l.count ≤ vec_capacity l.pairs)
