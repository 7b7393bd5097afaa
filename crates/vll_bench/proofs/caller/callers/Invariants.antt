-- The library makes the calls of the scripts that are left.
use Rattle.std.proofs.Common.{All, vec_len}
use Rattle.vll_check.specs.Calls.{Fits}
use Rattle.vll_queue.specs.Shown.{library_of}
use Rattle.vll_bench.proofs.caller.callers.Given as goal

abbrev pub invariant-loop-script : goal.invariant-loop-script
invariant-loop-script g l = All (λ script. All (Fits (library_of g.N.Name.engine)) script.items) l.scripts.items

abbrev pub decreases-loop-script : goal.decreases-loop-script
decreases-loop-script g l = vec_len l.scripts
