-- The lines so far are cut off.
use Rattle.std.proofs.Common.{length}
use Rattle.vll_lines.specs.Private.Cutting.{Cuts}
use Rattle.vll_lines.proofs.cutting.cut.Given as goal

abbrev pub invariant-lines : goal.invariant-lines
invariant-lines l = Cuts l.library l.clients l.bytes l.fn.requests.items l.requests.items l.rest

abbrev pub decreases-lines : goal.decreases-lines
decreases-lines l = length l.rest
