-- No line has ended yet, and the tail stands for the bytes of the line that has begun.
use Rattle.std.proofs.Common.{◌≡◌, [], false}
use Rattle.vll_lines.proofs.Cuts.{IsBegun}
use Rattle.vll_lines.proofs.round.read_lines.Given as goal

abbrev pub invariant-loop : goal.invariant-loop
invariant-loop g l =
    (goal.iterator-loop g).can_next l.iterator' × (goal.iterator-loop g).is_finite l.iterator'
    × (l.requests.items ≡ []) × (g.S.Source.failed l.source ≡ false) × IsBegun (g.S.Source.remaining l.initial.source) (g.S.Source.remaining l.source) l.initial.tail.items l.tail.items
